-- What flows through a choice with a branch that is a choice, and through one with the branches of that in its place.
use Rattle.std.proofs.Common.{◌≡◌, ◌⊎◌, inl, inr, ℕ, suc, ◌+◌, ◌-◌, ◌<◌, ◌≤◌, Bool, true, false, List, ◌∷◌, ◌++◌, length, refl, sym, ap, ◌∙◌, subst, arith}
use Rattle.std.specs.Prelude.{nat_lt, slice_get, unwrap_or, Some}
use Rattle.std.specs.List.{Contains}
use Rattle.std.specs.FinMap as map
use Rattle.std.proofs.lemmas.Bool.Decides.{nat_tests}
use Rattle.std.proofs.lemmas.Option.{slice_get_within}
use Rattle.sn_record.specs.LabelSet.{Labels, union}
use Rattle.sn_typing.specs.Outline.{Outline, Choice, branch_of, nowhere}
use Rattle.sn_typing.specs.Flow.{Flows, HasFace, IsBeaten, IsFaceVariant, MayTake, Safe}
use Rattle.sn_planned.specs.Refined.{Refines}
use Rattle.sn_planned.proofs.Refined.{union-again}
use Rattle.sn_planned.proofs.Replaced.{slice-before, slice-behind}
use Rattle.sn_planned.proofs.Unbeaten.{IsUnbeaten, alike_union, fits_union, taken_unbeaten, unbeaten_taken}

-- the face of the same branch
pub face_moved : (xs ys : List (List Labels)) (i j : ℕ) (w : Labels) → slice_get xs i ≡ slice_get ys j → IsFaceVariant xs i w → IsFaceVariant ys j w
face_moved xs ys i j w same own = record { face = own.face; here = sym same ∙ own.here; listed = own.listed }

test_below : (n m : ℕ) → nat_lt n m ≡ true → n < m
test_below n m test = grind (arith, nat_tests)

test_past : (n m : ℕ) → nat_lt n m ≡ false → m ≤ n
test_past n m test = grind (arith, nat_tests)

-- where a branch of the flat choice stands: left of the place, in it, or right of it
pub data Place (a k i : ℕ) : Type 0 where
  on_left : i < a → Place a k i
  in_middle : (d : ℕ) → d < k → i ≡ a + d → Place a k i
  on_right : (d : ℕ) → i ≡ a + k + d → Place a k i

pub place_of : (a k i : ℕ) → Place a k i
place_of a k i = at (nat_lt i a) refl (nat_lt i (a + k)) refl
  where
    at : (b : Bool) → nat_lt i a ≡ b → (c : Bool) → nat_lt i (a + k) ≡ c → Place a k i
    at true test c other = on_left (test_below i a test)
    at false test true other = in_middle (i - a) (omega (arith, test_past i a test, test_below i (a + k) other)) (omega (arith, test_past i a test))
    at false test false other = on_right (i - (a + k)) (omega (arith, test_past i (a + k) other))

-- where a branch of the outer choice stands
pub data Side (a j : ℕ) : Type 0 where
  left_of : j < a → Side a j
  here : j ≡ a → Side a j
  right_of : (d : ℕ) → j ≡ a + suc d → Side a j

side_of : (a j : ℕ) → Side a j
side_of a j = at (nat_lt j a) refl (nat_lt a j) refl
  where
    at : (b : Bool) → nat_lt j a ≡ b → (c : Bool) → nat_lt a j ≡ c → Side a j
    at true test c other = left_of (test_below j a test)
    at false test true other = right_of (j - suc a) (omega (arith, test_below a j other))
    at false test false other = here (omega (arith, test_past j a test, test_past a j other))

module _ (place q : ℕ) (left inner right : List (List Labels)) (face : List Labels) (bleft binner bright : List Outline)
    (as_left : length bleft ≡ length left) (as_inner : length binner ≡ length inner)
    (to_inner : (w : Labels) → Contains face w → (d : ℕ) × IsFaceVariant inner d w) (from_inner : (d : ℕ) (w : Labels) → IsFaceVariant inner d w → Contains face w) where
  abbrev pub a : ℕ
  a = length left

  abbrev pub k : ℕ
  k = length inner

  abbrev pub flat : List (List Labels)
  flat = left ++ (inner ++ right)

  abbrev pub outer : List (List Labels)
  outer = left ++ face ∷ right

  abbrev pub inner_choice : Outline
  inner_choice = Choice q inner (branch_of binner)

  abbrev pub flat_branch : ℕ → Outline
  flat_branch = branch_of (bleft ++ (binner ++ bright))

  abbrev pub outer_branch : ℕ → Outline
  outer_branch = branch_of (bleft ++ inner_choice ∷ bright)

  same_left : (i : ℕ) → i < a → slice_get flat i ≡ slice_get outer i
  same_left i short = slice-before left (inner ++ right) i short ∙ sym (slice-before left (face ∷ right) i short)

  same_middle : (d : ℕ) → d < k → slice_get flat (a + d) ≡ slice_get inner d
  same_middle d short = slice-behind left (inner ++ right) (a + d) d refl ∙ slice-before inner right d short

  same_right : (d : ℕ) → slice_get flat (a + k + d) ≡ slice_get outer (a + suc d)
  same_right d =
      slice-behind left (inner ++ right) (a + k + d) (k + d) (omega arith) ∙ slice-behind inner right (k + d) d refl
      ∙ sym (slice-behind left (face ∷ right) (a + suc d) (suc d) refl)

  at_place : slice_get outer a ≡ Some face
  at_place = slice-behind left (face ∷ right) a 0 (omega arith)

  some-is : (xs ys : List Labels) → Some xs ≡ Some ys → xs ≡ ys
  some-is xs ys e = cc

  to_face : (w : Labels) → IsFaceVariant outer a w → Contains face w
  to_face w own = subst (λ (xs : List Labels). Contains xs w) (some-is own.face face (sym own.here ∙ at_place)) own.listed

  from_face : (w : Labels) → Contains face w → IsFaceVariant outer a w
  from_face w there = record { face = face; here = at_place; listed = there }

  within_inner : (d : ℕ) (w : Labels) → IsFaceVariant inner d w → d < k
  within_inner d w own = slice_get_within inner d own.face own.here

  -- a branch of the flat choice, and that of the outer one in which it stands
  pub data Up (i j : ℕ) : Type 0 where
    up_left : i < a → j ≡ i → Up i j
    up_middle : (d : ℕ) → d < k → i ≡ a + d → j ≡ a → Up i j
    up_right : (d : ℕ) → i ≡ a + k + d → j ≡ a + suc d → Up i j

  -- the same variant in the outer choice
  raised : (i j : ℕ) (w : Labels) → Up i j → IsFaceVariant flat i w → IsFaceVariant outer j w
  raised i j w (up_left short same) own = subst (λ n. IsFaceVariant outer n w) (sym same) (face_moved flat outer i i w (same_left i short) own)
  raised i j w (up_middle d short is same) own =
      subst (λ n. IsFaceVariant outer n w) (sym same) (from_face w (from_inner d w (face_moved flat inner (a + d) d w (same_middle d short) (subst (λ n. IsFaceVariant flat n w) is own))))
  raised i j w (up_right d is same) own =
      subst (λ n. IsFaceVariant outer n w) (sym same) (face_moved flat outer (a + k + d) (a + suc d) w (same_right d) (subst (λ n. IsFaceVariant flat n w) is own))

  -- what beats a variant in the outer choice, beats it in the flat one
  beaten_flat : (i j : ℕ) (w s : Labels) → Up i j → IsBeaten outer j w s → IsBeaten flat i w s
  beaten_flat i j w s up beaten = at (side_of a beaten.branch)
    where
      len : Labels → ℕ
      len v = map.len v

      moved : (b : ℕ) → IsFaceVariant flat b beaten.variant → (beaten.branch < j → b < i) → IsBeaten flat i w s
      moved b own earlier = record { branch = b; variant = beaten.variant; other = own; fits = beaten.fits; before = which beaten.before }
        where
          which : (map.len w < map.len beaten.variant) ⊎ ((map.len beaten.variant ≡ map.len w) × (beaten.branch < j)) → (map.len w < map.len beaten.variant) ⊎ ((map.len beaten.variant ≡ map.len w) × (b < i))
          which (inl larger) = inl larger
          which (inr (as_large, further)) = inr (as_large, earlier further)

      at : Side a beaten.branch → IsBeaten flat i w s
      at (left_of short) = moved beaten.branch (face_moved outer flat beaten.branch beaten.branch beaten.variant (sym (same_left beaten.branch short)) beaten.other) (left_before up)
        where
          left_before : Up i j → beaten.branch < j → beaten.branch < i
          left_before (up_left below same) further = omega (arith, same, further)
          left_before (up_middle d below is same) further = omega (arith, short, is)
          left_before (up_right d is same) further = omega (arith, short, is)
      at (here same) = moved (a + found.0) (face_moved inner flat found.0 (a + found.0) beaten.variant (sym (same_middle found.0 short)) found.1) (here_before up)
        where
          found : (d : ℕ) × IsFaceVariant inner d beaten.variant
          found = to_inner beaten.variant (to_face beaten.variant (subst (λ n. IsFaceVariant outer n beaten.variant) same beaten.other))

          short : found.0 < k
          short = within_inner found.0 beaten.variant found.1

          here_before : Up i j → beaten.branch < j → a + found.0 < i
          here_before (up_left below is) further = absurd (past below is further)
            where
              past : i < a → j ≡ i → beaten.branch < j → ⊥
              past below is further = absurd (omega (arith, same, below, is, further))
          here_before (up_middle d below is there) further = absurd (past there further)
            where
              past : j ≡ a → beaten.branch < j → ⊥
              past there further = absurd (omega (arith, same, there, further))
          here_before (up_right d is there) further = omega (arith, short, is)
      at (right_of e same) =
          moved (a + k + e) (face_moved outer flat (a + suc e) (a + k + e) beaten.variant (sym (same_right e)) (subst (λ n. IsFaceVariant outer n beaten.variant) same beaten.other)) (right_before up)
        where
          right_before : Up i j → beaten.branch < j → a + k + e < i
          right_before (up_left below is) further = absurd (past below is further)
            where
              past : i < a → j ≡ i → beaten.branch < j → ⊥
              past below is further = absurd (omega (arith, same, below, is, further))
          right_before (up_middle d below is there) further = absurd (past there further)
            where
              past : j ≡ a → beaten.branch < j → ⊥
              past there further = absurd (omega (arith, same, there, further))
          right_before (up_right d is there) further = omega (arith, same, is, there, further)

  unbeaten_outer : (i j : ℕ) (w s : Labels) → Up i j → IsUnbeaten flat i w s → IsUnbeaten outer j w s
  unbeaten_outer i j w s up unbeaten = record { own = raised i j w up unbeaten.own; best = λ beaten. unbeaten.best (beaten_flat i j w s up beaten) }

  unbeaten_inner : (d : ℕ) (w s : Labels) → d < k → IsUnbeaten flat (a + d) w s → IsUnbeaten inner d w s
  unbeaten_inner d w s short unbeaten = record {
    own = face_moved flat inner (a + d) d w (same_middle d short) unbeaten.own;
    best = λ beaten. unbeaten.best (record {
      branch = a + beaten.branch;
      variant = beaten.variant;
      other = face_moved inner flat beaten.branch (a + beaten.branch) beaten.variant (sym (same_middle beaten.branch (within_inner beaten.branch beaten.variant beaten.other))) beaten.other;
      fits = beaten.fits;
      before = which beaten.branch beaten.variant beaten.before;
    });
  }
    where
      which : (b : ℕ) (x : Labels) → (map.len w < map.len x) ⊎ ((map.len x ≡ map.len w) × (b < d)) → (map.len w < map.len x) ⊎ ((map.len x ≡ map.len w) × (a + b < a + d))
      which b x (inl larger) = inl larger
      which b x (inr (as_large, further)) = inr (as_large, omega (arith, further))

  pub has_outer : (v : Labels) → HasFace flat v → HasFace outer v
  has_outer v has = at (place_of a k has.branch)
    where
      at : Place a k has.branch → HasFace outer v
      at (on_left short) = record { branch = has.branch; variant = has.variant; own = raised has.branch has.branch has.variant (up_left short refl) has.own; fits = has.fits }
      at (in_middle d short is) = record { branch = a; variant = has.variant; own = raised has.branch a has.variant (up_middle d short is refl) has.own; fits = has.fits }
      at (on_right d is) = record { branch = a + suc d; variant = has.variant; own = raised has.branch (a + suc d) has.variant (up_right d is refl) has.own; fits = has.fits }

  has_flat : (v : Labels) → HasFace outer v → HasFace flat v
  has_flat v has = at (side_of a has.branch)
    where
      at : Side a has.branch → HasFace flat v
      at (left_of short) = record { branch = has.branch; variant = has.variant; own = face_moved outer flat has.branch has.branch has.variant (sym (same_left has.branch short)) has.own; fits = has.fits }
      at (here same) =
          let found = to_inner has.variant (to_face has.variant (subst (λ n. IsFaceVariant outer n has.variant) same has.own)) in
          record {
            branch = a + found.0;
            variant = has.variant;
            own = face_moved inner flat found.0 (a + found.0) has.variant (sym (same_middle found.0 (within_inner found.0 has.variant found.1))) found.1;
            fits = has.fits;
          }
      at (right_of d same) = record {
        branch = a + k + d;
        variant = has.variant;
        own = face_moved outer flat (a + suc d) (a + k + d) has.variant (sym (same_right d)) (subst (λ n. IsFaceVariant outer n has.variant) same has.own);
        fits = has.fits;
      }

  -- the branches
  pub branch_left : (i : ℕ) → i < a → flat_branch i ≡ outer_branch i
  branch_left i short =
      let near : i < length bleft = omega (arith, as_left, short) in
      ap (λ t. unwrap_or t (nowhere 0)) (slice-before bleft (binner ++ bright) i near ∙ sym (slice-before bleft (inner_choice ∷ bright) i near))

  pub branch_middle : (d : ℕ) → d < k → flat_branch (a + d) ≡ branch_of binner d
  branch_middle d short =
      ap (λ t. unwrap_or t (nowhere 0)) (slice-behind bleft (binner ++ bright) (a + d) d (omega (arith, as_left)) ∙ slice-before binner bright d (omega (arith, as_inner, short)))

  pub branch_right : (d : ℕ) → flat_branch (a + k + d) ≡ outer_branch (a + suc d)
  branch_right d =
      ap (λ t. unwrap_or t (nowhere 0))
      (slice-behind bleft (binner ++ bright) (a + k + d) (k + d) (omega (arith, as_left)) ∙ slice-behind binner bright (k + d) d (omega (arith, as_inner))
      ∙ sym (slice-behind bleft (inner_choice ∷ bright) (a + suc d) (suc d) (omega (arith, as_left))))

  pub branch_here : outer_branch a ≡ inner_choice
  branch_here = ap (λ t. unwrap_or t (nowhere 0)) (slice-behind bleft (inner_choice ∷ bright) a 0 (omega (arith, as_left)))

  -- what the flat choice takes, the outer one takes
  pub taken_outer : (i j : ℕ) (w v : Labels) → Up i j → MayTake flat i w v → MayTake outer j w v
  taken_outer i j w v up taken = unbeaten_taken outer j w v taken.alike (unbeaten_outer i j w (union v w) up (taken_unbeaten flat i w v taken))

  -- and then the inner one, to which the variant is sent
  pub taken_inner : (d i : ℕ) (w v : Labels) → d < k → i ≡ a + d → MayTake flat i w v → MayTake inner d w (union v w)
  taken_inner d i w v short is taken =
      unbeaten_taken inner d w (union v w) (alike_union v w taken.alike)
      (subst (λ s. IsUnbeaten inner d w s) (sym (union-again v w)) (unbeaten_inner d w (union v w) short (subst (λ n. IsUnbeaten flat n w (union v w)) is (taken_unbeaten flat i w v taken))))

  pub has_inner : (d i : ℕ) (w v : Labels) → d < k → i ≡ a + d → MayTake flat i w v → HasFace inner (union v w)
  has_inner d i w v short is taken = record { branch = d; variant = w; own = (taken_inner d i w v short is taken).own; fits = fits_union v w taken.alike }

  flows_out : (v u : Labels) (i : ℕ) (w : Labels) → MayTake flat i w v → Flows (flat_branch i) (union v w) u → (j : ℕ) × (x : Labels) × MayTake outer j x v × Flows (outer_branch j) (union v x) u
  flows_out v u i w taken flow = at (place_of a k i)
    where
      at : Place a k i → (j : ℕ) × (x : Labels) × MayTake outer j x v × Flows (outer_branch j) (union v x) u
      at (on_left short) = (i, w, taken_outer i i w v (up_left short refl) taken, subst (λ o. Flows o (union v w) u) (branch_left i short) flow)
      at (in_middle d short is) =
          let through : Flows (branch_of binner d) (union v w) u = subst (λ o. Flows o (union v w) u) (ap flat_branch is ∙ branch_middle d short) flow in (
            a,
            w,
            taken_outer i a w v (up_middle d short is refl) taken,
            subst (λ o. Flows o (union v w) u) (sym branch_here)
                (has_inner d i w v short is taken, (d, w, taken_inner d i w v short is taken, subst (λ s. Flows (branch_of binner d) s u) (sym (union-again v w)) through)),
          )
      at (on_right d is) = (a + suc d, w, taken_outer i (a + suc d) w v (up_right d is refl) taken, subst (λ o. Flows o (union v w) u) (ap flat_branch is ∙ branch_right d) flow)

  stays_safe : (v : Labels) → ((j : ℕ) (w : Labels) → MayTake outer j w v → Safe (outer_branch j) (union v w)) → (i : ℕ) (w : Labels) → MayTake flat i w v → Safe (flat_branch i) (union v w)
  stays_safe v safe i w taken = at (place_of a k i)
    where
      at : Place a k i → Safe (flat_branch i) (union v w)
      at (on_left short) = subst (λ o. Safe o (union v w)) (sym (branch_left i short)) (safe i w (taken_outer i i w v (up_left short refl) taken))
      at (in_middle d short is) =
          let here_safe : Safe inner_choice (union v w) = subst (λ o. Safe o (union v w)) branch_here (safe a w (taken_outer i a w v (up_middle d short is refl) taken)) in
          subst (λ o. Safe o (union v w)) (sym (ap flat_branch is ∙ branch_middle d short)) (subst (λ s. Safe (branch_of binner d) s) (union-again v w) (here_safe.1 d w (taken_inner d i w v short is taken)))
      at (on_right d is) = subst (λ o. Safe o (union v w)) (sym (ap flat_branch is ∙ branch_right d)) (safe (a + suc d) w (taken_outer i (a + suc d) w v (up_right d is refl) taken))

  -- No more flows through the flat choice, and it is safe where the other one is.
  pub inlined_refines : Refines (Choice place (left ++ (inner ++ right)) (branch_of (bleft ++ (binner ++ bright)))) (Choice place (left ++ face ∷ right) (branch_of (bleft ++ inner_choice ∷ bright)))
  inlined_refines = record {
    flows = λ v u (has, (i, w, taken, flow)). (has_outer v has, flows_out v u i w taken flow);
    safe = λ v (has, safe). (has_flat v has, stays_safe v safe);
  }
