-- What flows through a choice without a branch that takes nothing of a variant.
use Rattle.std.proofs.Common.{◌≡◌, ◌⊎◌, inl, inr, ℕ, suc, ◌-◌, ◌<◌, ◌≤◌, Bool, true, false, cond, is_some, List, [], ◌∷◌, ◌++◌, length, map as each, Option, None, Some, refl, sym, ap, ◌∙◌, subst, arith}
use Rattle.std.specs.Prelude.{nat_lt, pos, slice_get}
use Rattle.std.specs.FinMap as map
use Rattle.std.specs.Ordering.{eq_by_cmp}
use Rattle.std.proofs.lemmas.Bool.Decides.{nat_tests}
use Rattle.sn_record.specs.declared.label.Label.{Label}
use Rattle.sn_record.specs.declared.value.Value.{Value}
use Rattle.sn_record.specs.declared.value.Value.TheVariants.{Int}
use Rattle.sn_record.specs.Label.{label_cmp, label_cmp_total}
use Rattle.sn_record.specs.LabelSet.{Labels, IsSubset, contains, union}
use Rattle.sn_record.specs.Record.{Entries, Matches}
use Rattle.sn_record.specs.Fits.{BindAlike, Fits}
use Rattle.sn_record.proofs.Fitting.{bind_alike_itself, bind_alike_through, bind_alike_turned, fits_bind_alike, subset_fits}
use Rattle.sn_record.proofs.Sets.{IsSubset-union_left, IsSubset-union_right}
use Rattle.sn_net.specs.Route.{best_branch}
use Rattle.sn_typing.specs.Flow.{HasFace, IsBeaten, MayTake}
use Rattle.sn_typing.proofs.Subsets.{union_within}
use Rattle.sn_sound.proofs.Scores.{best_is_taken, some_branch}
use Rattle.sn_planned.proofs.InlinedTyped.{face_moved}
use Rattle.sn_planned.proofs.Replaced.{slice-before, slice-behind}
use Rattle.sn_planned.proofs.Unbeaten.{IsUnbeaten, taken_unbeaten, union_alike}

-- ---- a record with the labels of a set

abbrev entry : Label × Unit {0} → Label × Value
entry e = (e.0, Int (pos 0))

find-entries : (l : Label) (es : List (Label × Unit {0})) → is_some (map.find label_cmp l (each entry es)) ≡ is_some (map.find label_cmp l es)
find-entries l [] = refl
find-entries l (e ∷ es) = at (eq_by_cmp label_cmp l e.0) (find-entries l es)
  where
    at : (b : Bool) → is_some (map.find label_cmp l (each entry es)) ≡ is_some (map.find label_cmp l es)
        → is_some (cond b (Some (entry e).1) (map.find label_cmp l (each entry es))) ≡ is_some (cond b (Some e.1) (map.find label_cmp l es))
    at true rest = refl
    at false rest = rest

abbrev record_of : Labels → Entries
record_of s = map.from_entries (each entry (map.entries s))

same_keys : (s : Labels) (l : Label) → map.contains_key (record_of s) l ≡ contains s l
same_keys s l =
    ap is_some (map.get-from_entries label_cmp_total (each entry (map.entries s)) l) ∙ find-entries l (map.entries s) ∙ sym (ap is_some (map.get-entries s l))

matches_itself : (s : Labels) → Matches (record_of s) s
matches_itself s = record { within = λ l there. same_keys s l ∙ there; bound = λ l binds there. sym (same_keys s l) ∙ there }

matched_within : (s w : Labels) → Matches (record_of s) w → IsSubset w s
matched_within s w matches l there = sym (same_keys s l) ∙ matches.within l there

-- ---- the best variant within a set

-- what beats within fewer labels, of which the binding tags are the same, beats within more
pub unbeaten_less : (faces : List (List Labels)) (i : ℕ) (w s t : Labels) → IsSubset t s → BindAlike t s → IsUnbeaten faces i w s → IsUnbeaten faces i w t
unbeaten_less faces i w s t less alike unbeaten = record {
  own = unbeaten.own;
  best = λ beaten. unbeaten.best (record {
    branch = beaten.branch;
    variant = beaten.variant;
    other = beaten.other;
    fits = subset_fits beaten.variant s (λ l there. less l (beaten.fits.within l there)) (bind_alike_through beaten.variant t s (fits_bind_alike beaten.variant t beaten.fits) alike);
    before = beaten.before;
  });
}

pub record Best (faces : List (List Labels)) (s : Labels) : Type 0 where
  pub branch : ℕ
  pub variant : Labels
  pub fits : Fits variant s
  pub unbeaten : IsUnbeaten faces branch variant s

-- where a face has a variant that fits the set, one of these is best
pub best_within : (faces : List (List Labels)) (s : Labels) → HasFace faces s → Best faces s
best_within faces s has = at (best_branch faces (record_of s)) refl
  where
    at : (b : Option ℕ) → best_branch faces (record_of s) ≡ b → Best faces s
    at None none = absurd (some_branch faces (record_of s) s (matches_itself s) has none)
    at (Some i) best =
        let chosen = best_is_taken faces (record_of s) s i (matches_itself s) best in
        record {
          branch = i;
          variant = chosen.0;
          fits = subset_fits chosen.0 s (λ l there. matched_within s (union s chosen.0) chosen.2 l (IsSubset-union_right s chosen.0 l there)) chosen.1.alike;
          unbeaten = unbeaten_less faces i chosen.0 (union s chosen.0) s (IsSubset-union_left s chosen.0)
              (bind_alike_turned (union s chosen.0) s (union_alike s chosen.0 chosen.1.alike)) (taken_unbeaten faces i chosen.0 s chosen.1);
        }

test_below : (n m : ℕ) → nat_lt n m ≡ true → n < m
test_below n m test = grind (arith, nat_tests)

test_past : (n m : ℕ) → nat_lt n m ≡ false → m ≤ n
test_past n m test = grind (arith, nat_tests)

-- ---- a branch is dropped

module _ (left right : List (List Labels)) (face : List Labels) where
  abbrev a : ℕ
  a = length left

  abbrev fewer : List (List Labels)
  fewer = left ++ right

  abbrev outer : List (List Labels)
  outer = left ++ face ∷ right

  -- a branch that stays, and the place where it stood
  pub data Stood (i j : ℕ) : Type 0 where
    stood_left : i < a → j ≡ i → Stood i j
    stood_right : a ≤ i → j ≡ suc i → Stood i j

  pub stood : (i : ℕ) → (j : ℕ) × Stood i j
  stood i = at (nat_lt i a) refl
    where
      at : (b : Bool) → nat_lt i a ≡ b → (j : ℕ) × Stood i j
      at true test = (i, stood_left (test_below i a test) refl)
      at false test = (suc i, stood_right (test_past i a test) refl)

  -- where another branch stands then
  stands : (j : ℕ) → (j ≡ a → ⊥) → (i : ℕ) × Stood i j
  stands j not = at (nat_lt j a) refl (nat_lt a j) refl
    where
      at : (b : Bool) → nat_lt j a ≡ b → (c : Bool) → nat_lt a j ≡ c → (i : ℕ) × Stood i j
      at true test c other = (j, stood_left (test_below j a test) refl)
      at false test true other = (j - 1, stood_right (omega (arith, test_below a j other)) (omega (arith, test_below a j other)))
      at false test false other = absurd (not (omega (arith, test_past j a test, test_past a j other)))

  same_face : (i j : ℕ) → Stood i j → slice_get fewer i ≡ slice_get outer j
  same_face i j (stood_left short same) = slice-before left right i short ∙ sym (ap (slice_get outer) same ∙ slice-before left (face ∷ right) i short)
  same_face i j (stood_right far same) =
      slice-behind left right i (i - a) (omega (arith, far)) ∙ sym (slice-behind left (face ∷ right) j (suc (i - a)) (omega (arith, far, same)))

  keeps_order : (i j i' j' : ℕ) → Stood i j → Stood i' j' → j < j' → i < i'
  keeps_order i j i' j' (stood_left short same) (stood_left short' same') less = omega (arith, same, same', less)
  keeps_order i j i' j' (stood_left short same) (stood_right far' same') less = omega (arith, short, far')
  keeps_order i j i' j' (stood_right far same) (stood_left short' same') less = absurd (crossed far same short' same' less)
    where
      crossed : a ≤ i → j ≡ suc i → i' < a → j' ≡ i' → j < j' → ⊥
      crossed far same short' same' less = absurd (omega (arith, far, same, short', same', less))
  keeps_order i j i' j' (stood_right far same) (stood_right far' same') less = omega (arith, same, same', less)

  module _ (v : Labels) (not_taken : (w : Labels) → MayTake outer a w v → ⊥) where
    -- the best within what the variant has with one of its own is not of the branch that is dropped
    best_elsewhere : (s : Labels) → IsSubset v s → BindAlike s v → (best : Best outer s) → best.branch ≡ a → ⊥
    best_elsewhere s over same best here =
        not_taken best.variant (subst (λ n. MayTake outer n best.variant v) here (record { own = best.unbeaten.own; alike = alike; best = within.best }))
      where
        alike : BindAlike best.variant v
        alike = bind_alike_through best.variant s v (fits_bind_alike best.variant s best.fits) same

        within : IsUnbeaten outer best.branch best.variant (union v best.variant)
        within =
            unbeaten_less outer best.branch best.variant s (union v best.variant) (union_within v best.variant s over best.fits.within)
            (bind_alike_through (union v best.variant) v s (union_alike v best.variant alike) (bind_alike_turned s v same)) best.unbeaten

    -- what beats a variant, also where the dropped branch has it, stands elsewhere too
    beaten_still : (i j : ℕ) (w s : Labels) → IsSubset v s → BindAlike s v → Stood i j → IsBeaten outer j w s → IsBeaten fewer i w s
    beaten_still i j w s over same up beaten = placed (stands best.branch (best_elsewhere s over same best))
      where
        best : Best outer s
        best = best_within outer s (record { branch = beaten.branch; variant = beaten.variant; own = beaten.other; fits = beaten.fits })

        -- it is at least as good as what beats
        not_larger : map.len best.variant < map.len beaten.variant → ⊥
        not_larger larger = best.unbeaten.best (record { branch = beaten.branch; variant = beaten.variant; other = beaten.other; fits = beaten.fits; before = inl larger })

        not_further : map.len beaten.variant ≡ map.len best.variant → beaten.branch < best.branch → ⊥
        not_further as_large further = best.unbeaten.best (record { branch = beaten.branch; variant = beaten.variant; other = beaten.other; fits = beaten.fits; before = inr (as_large, further) })

        better : (i' : ℕ) → (best.branch < j → i' < i) → (m n k : ℕ) → m ≡ map.len w → n ≡ map.len beaten.variant → k ≡ map.len best.variant → (m < n) ⊎ ((n ≡ m) × (beaten.branch < j))
            → (map.len w < map.len best.variant) ⊎ ((map.len best.variant ≡ map.len w) × (i' < i))
        better i' earlier m n k is_m is_n is_k before = at (nat_lt k n) refl (nat_lt m k) refl before
          where
            at : (b : Bool) → nat_lt k n ≡ b → (c : Bool) → nat_lt m k ≡ c → (m < n) ⊎ ((n ≡ m) × (beaten.branch < j))
                → (map.len w < map.len best.variant) ⊎ ((map.len best.variant ≡ map.len w) × (i' < i))
            at true test c other any = absurd (not_larger (omega (arith, test_below k n test, is_n, is_k)))
            at false test true other any = inl (omega (arith, test_below m k other, is_m, is_k))
            at false test false other (inl larger) = absurd (impossible larger)
              where
                impossible : m < n → ⊥
                impossible larger = absurd (omega (arith, larger, test_past k n test, test_past m k other))
            at false test false other (inr (as_large, further)) = inr (omega (arith, as_large, is_m, is_k, test_past k n test, test_past m k other), earlier (near (nat_lt beaten.branch best.branch) refl))
              where
                near : (d : Bool) → nat_lt beaten.branch best.branch ≡ d → best.branch < j
                near true left_of = absurd (not_further (omega (arith, as_large, is_m, is_n, is_k, test_past k n test, test_past m k other)) (test_below beaten.branch best.branch left_of))
                near false right_of = omega (arith, test_past beaten.branch best.branch right_of, further)

        placed : (i' : ℕ) × Stood i' best.branch → IsBeaten fewer i w s
        placed (i', there) = record {
          branch = i';
          variant = best.variant;
          other = face_moved outer fewer best.branch i' best.variant (sym (same_face i' best.branch there)) best.unbeaten.own;
          fits = best.fits;
          before = better i' (keeps_order i' best.branch i j there up) (map.len w) (map.len beaten.variant) (map.len best.variant) refl refl refl beaten.before;
        }

    -- what is taken then was taken before
    pub taken_before : (i j : ℕ) (w : Labels) → Stood i j → MayTake fewer i w v → MayTake outer j w v
    taken_before i j w up taken = record {
      own = face_moved fewer outer i j w (same_face i j up) taken.own;
      alike = taken.alike;
      best = λ beaten. taken.best (beaten_still i j w (union v w) (IsSubset-union_left v w) (union_alike v w taken.alike) up beaten);
    }

    pub has_still : HasFace outer v → HasFace fewer v
    has_still has =
        let best : Best outer v = best_within outer v has in
        let there = stands best.branch (best_elsewhere v (λ l there. there) (bind_alike_itself v) best) in
        record {
          branch = there.0;
          variant = best.variant;
          own = face_moved outer fewer best.branch there.0 best.variant (sym (same_face there.0 best.branch there.1)) best.unbeaten.own;
          fits = best.fits;
        }
