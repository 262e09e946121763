-- What merges allow of two items that go to two branches.
use Rattle.std.proofs.Common.{◌≡◌, ℕ, zero, suc, Bool, true, false, cond, List, [], ◌∷◌, map, refl, sym, ap, ◌∙◌, arith}
use Rattle.sn_streams.specs.Example.{by_number, by_branches}
use Rattle.sn_streams.specs.Forks.{Free, Deterministic, items_of, by_segment}
use Rattle.sn_streams.specs.Keys.{Key, Own, Branch, Inside, Value, key_eq, replaced_at}
use Rattle.sn_streams.specs.Segments.{Segments, first_segment}
use Rattle.sn_streams.specs.Shuffles.{SegmentShuffles}
use Rattle.sn_streams.specs.Trees.{Tree, Allows, one, passing}
use Rattle.sn_streams.proofs.Passing.{passing-map}
use Rattle.sn_streams.proofs.Trees.{tree_has_one}

abbrev unchanging : Tree ℕ ℕ
unchanging = passing by_number 0

nothing_left : (k : Key) → replaced_at (replaced_at (λ j. items_of by_number j (0 ∷ 1 ∷ [])) (Branch 1) []) (Branch 0) [] k ≡ []
nothing_left Own = refl
nothing_left (Branch zero) = refl
nothing_left (Branch (suc zero)) = refl
nothing_left (Branch (suc (suc n))) = grind arith
nothing_left Inside = refl
nothing_left (Value t) = refl

pub overtakes : Allows (by_branches Free) ((0 ∷ 1 ∷ []) ∷ []) ((1 ∷ 0 ∷ []) ∷ [])
overtakes = record {
  answers = λ k. items_of by_number k (0 ∷ 1 ∷ []) ∷ [];
  answered = λ k. same (items_of by_number k (0 ∷ 1 ∷ []));
  shuffled = (
    (λ k. items_of by_number k (0 ∷ 1 ∷ [])),
    (λ k. []),
    (λ k. refl),
    (Branch 1, [], refl, (Branch 0, [], refl, nothing_left)),
    (λ k. refl),
  );
}
  where
    unchanged : (xs : List ℕ) → xs ≡ map (λ n. n) xs
    unchanged [] = refl
    unchanged (x ∷ xs) = ap (λ ys. x ∷ ys) (unchanged xs)

    same : (xs : List ℕ) → Allows unchanging (xs ∷ []) (xs ∷ [])
    same xs = ap (λ ys. ys ∷ []) (unchanged xs) ∙ sym (passing-map by_number zero (xs ∷ []))

pub not_across_borders : Allows (by_branches Free) ((0 ∷ []) ∷ (1 ∷ []) ∷ []) ((1 ∷ []) ∷ (0 ∷ []) ∷ []) → ⊥
not_across_borders h = from h.answers h.answered h.shuffled
  where
    other_item : (b : Bool) (tail : List ℕ) → map (λ n. n) (cond b (0 ∷ []) []) ≡ 1 ∷ tail → ⊥
    other_item true tail e = cc
    other_item false tail e = cc

    from : (answers : Key → Segments ℕ) → ((k : Key) → Allows unchanging (by_segment by_number k ((0 ∷ []) ∷ (1 ∷ []) ∷ [])) (answers k))
        → SegmentShuffles ((1 ∷ []) ∷ (0 ∷ []) ∷ []) answers → ⊥
    from answers answered (firsts, others, are, (k, tail, is, last), shuffles) =
        other_item (key_eq k (Branch 0)) tail
        (ap first_segment (sym (passing-map by_number zero (by_segment by_number k ((0 ∷ []) ∷ (1 ∷ []) ∷ []))) ∙ sym (answered k) ∙ are k) ∙ is)

pub not_in_turn : Allows (by_branches Deterministic) ((0 ∷ 1 ∷ []) ∷ []) ((1 ∷ 0 ∷ []) ∷ []) → ⊥
not_in_turn h = impossible (tree_has_one (by_branches Deterministic) (tt, (λ k. tt)) ((0 ∷ 1 ∷ []) ∷ []) ((1 ∷ 0 ∷ []) ∷ []) h)
  where
    impossible : (1 ∷ 0 ∷ []) ∷ [] ≡ one (by_branches Deterministic) ((0 ∷ 1 ∷ []) ∷ []) → ⊥
    impossible e = cc
