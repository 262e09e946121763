-- Pieces that are written one after another.
use Rattle.std.proofs.Common.{◌≡◌, ℕ, ◌+◌, ◌<◌, List, ◌++◌, length, get_or, drop, Option, sym, ap, ◌∙◌, subst, append_assoc}
use Rattle.std.specs.List.{flat_map}
use Rattle.std.proofs.lemmas.List.{drop_more}
use Rattle.sn_io.specs.Told.{appended, AppendsPrefix}
use Rattle.sn_io.proofs.Told.{appended_twice, prefix_after, prefix_before}

-- those before place i were written
module _ {A : Type 0} (f : A → List ℕ) (xs : List A) (i : ℕ) (d : A) (within : i < length xs) (done : List ℕ) (rest : done ++ flat_map f (drop i xs) ≡ flat_map f xs) (first before now : Option (List ℕ)) (was : before ≡ appended first done) where
  pub piece_rest : (done ++ f (get_or xs i d)) ++ flat_map f (drop (i + 1) xs) ≡ flat_map f xs
  piece_rest = append_assoc done (f (get_or xs i d)) (flat_map f (drop (i + 1) xs)) ∙ ap (λ ys. done ++ flat_map f ys) (sym (drop_more xs i d within)) ∙ rest

  pub piece_held : now ≡ appended before (f (get_or xs i d)) → now ≡ appended first (done ++ f (get_or xs i d))
  piece_held got = got ∙ ap (λ (h : Option (List ℕ)). appended h (f (get_or xs i d))) was ∙ appended_twice first done (f (get_or xs i d))

  pub piece_cut : AppendsPrefix before now (f (get_or xs i d)) → AppendsPrefix first now (flat_map f xs)
  piece_cut part = subst (AppendsPrefix first now) piece_rest (prefix_before first now (done ++ f (get_or xs i d)) (flat_map f (drop (i + 1) xs)) (prefix_after first before now done (f (get_or xs i d)) was part))
