-- States of children in lists: what choices, splits and stars keep when one of them changes, and when one is added.
use Rattle.std.proofs.Common.{◌≡◌, ◌≢◌, ℕ, ℤ, zero, suc, ◌+◌, ◌<◌, ◌≤◌, ◌==◌, Bool, true, false, cond, List, [], ◌∷◌, ◌++◌, length, set, refl, sym, ap, ◌∙◌, subst, arith}
use Rattle.std.specs.Ordering.{int_eq}
use Rattle.std.specs.List.{position_or_len}
use Rattle.std.specs.Prelude.{slice_get, Some, not}
use Rattle.std.proofs.lemmas.Bool.Decides.{nat_tests, Decides-int_eq}
use Rattle.sn_record.specs.LabelSet.{Labels}
use Rattle.sn_streams.specs.Keys.{Key as StreamKey, Own, Branch, Inside, Value, key_eq}
use Rattle.sn_streams.proofs.Keys.{key_eq-refl}
use Rattle.sn_net.specs.declared.net.Merge.{Merge}
use Rattle.sn_net.specs.Cell.{CellState}
use Rattle.sn_net.specs.Dispatchers.{Network, stream_key, choice, split}
use Rattle.sn_net.specs.Item.{ModelItem}
use Rattle.sn_net.specs.Route.{choice_key, split_key, of_record}
use Rattle.sn_pass.specs.Held.{kept_at, branches_held, replicas_held, Replica, is_for, kept_for}
use Rattle.sn_pass.specs.Keeping.{Keeping, Fresh, child_of, keeping, Same}
use Rattle.sn_pass.specs.Levels.{StarParts, with_level}
use Rattle.sn_pass.proofs.Dispatching.{branch_alone, replica_alone}
use Rattle.sn_pass.proofs.Keeping.{same_refl}
use Rattle.sn_pass.proofs.Turns.{SameLevels}

abbrev Kept : Type 0
Kept = Keeping CellState

module _ {S : Type 0} where
  pub kept_at_set : (states : List (Keeping S)) (i : ℕ) (state : Keeping S) → i < length states → kept_at (set states i state) i ≡ state
  kept_at_set [] i state within = absurd (omega arith)
  kept_at_set (first ∷ states) zero state within = refl
  kept_at_set (first ∷ states) (suc i) state within = kept_at_set states i state (omega arith)

  pub kept_at_other : (states : List (Keeping S)) (i j : ℕ) (state : Keeping S) → j ≢ i → kept_at (set states i state) j ≡ kept_at states j
  kept_at_other [] i j state other = refl
  kept_at_other (first ∷ states) zero zero state other = absurd (other refl)
  kept_at_other (first ∷ states) zero (suc j) state other = refl
  kept_at_other (first ∷ states) (suc i) zero state other = refl
  kept_at_other (first ∷ states) (suc i) (suc j) state other = kept_at_other states i j state (λ is. other (ap suc is))

  -- one more state behind the others
  pub kept_at_end : (states : List (Keeping S)) (state : Keeping S) → kept_at (states ++ state ∷ []) (length states) ≡ state
  kept_at_end [] state = refl
  kept_at_end (first ∷ states) state = kept_at_end states state

  pub kept_at_before : (states : List (Keeping S)) (j : ℕ) (state : Keeping S) → j ≢ length states → kept_at (states ++ state ∷ []) j ≡ kept_at states j
  kept_at_before [] zero state other = absurd (other refl)
  kept_at_before [] (suc j) state other = refl
  kept_at_before (first ∷ states) zero state other = refl
  kept_at_before (first ∷ states) (suc j) state other = kept_at_before states j state (λ is. other (ap suc is))

  pub kept_at_past : (states : List (Keeping S)) → kept_at states (length states) ≡ Fresh
  kept_at_past [] = refl
  kept_at_past (first ∷ states) = kept_at_past states

-- a branch of a choice went on, and the others are as they were
pub branch_set : (place : ℕ) (m : Merge) (faces : List (List Labels)) (branches : List Network) (i : ℕ) (branch : Network) (states : List Kept) (state : Kept) (x : ModelItem)
    → stream_key (of_record (choice_key faces) x) ≡ Branch i → slice_get branches i ≡ Some branch → i < length states
    → Same branch state ((keeping branch).next (kept_at states i) x)
    → Same (choice place m faces branches) (branches_held (set states i state)) ((keeping (choice place m faces branches)).next (branches_held states) x)
branch_set place m faces branches i branch states state x goes there within here =
    branch_alone place m faces branches i branch (branches_held states) (branches_held (set states i state)) x goes there
    (subst (λ (p : Kept). Same branch p ((keeping branch).next (kept_at states i) x)) (sym (kept_at_set states i state within)) here) elsewhere
  where
    elsewhere : (j : StreamKey) → key_eq j (Branch i) ≡ false → child_of (branches_held (set states i state)) j ≡ child_of (branches_held states) j
    elsewhere (Branch j) other = kept_at_other states i j state (λ is. let test = key_eq-refl (Branch i) in let same = ap (λ n. key_eq (Branch n) (Branch i)) is in cc)
    elsewhere Own other = refl
    elsewhere Inside other = refl
    elsewhere (Value n) other = refl

-- the replica of a value went on, and the others are as they were
pub replica_set : (place : ℕ) (m : Merge) (id : ℕ) (body : Network) (n : ℤ) (states later : ℤ → Kept) (x : ModelItem)
    → stream_key (of_record (split_key id) x) ≡ Value n
    → Same body (later n) ((keeping body).next (states n) x) → ((k : ℤ) → int_eq k n ≡ false → later k ≡ states k)
    → Same (split place m id body) (replicas_held later) ((keeping (split place m id body)).next (replicas_held states) x)
replica_set place m id body n states later x goes here others =
    replica_alone place m id body n (replicas_held states) (replicas_held later) x goes here elsewhere
  where
    elsewhere : (j : StreamKey) → key_eq j (Value n) ≡ false → child_of (replicas_held later) j ≡ child_of (replicas_held states) j
    elsewhere (Value k) other = others k other
    elsewhere Own other = refl
    elsewhere Inside other = refl
    elsewhere (Branch i) other = refl

int_refl : (n : ℤ) → int_eq n n ≡ true
int_refl n = key_eq-refl (Value n)

-- what is equal to a number is not equal to another one
int_other : (k n l : ℤ) → int_eq k n ≡ true → int_eq l n ≡ false → int_eq k l ≡ false
int_other k n l same other = grind (arith, same, other, Decides-int_eq k n, Decides-int_eq l n, Decides-int_eq k l)

one_more : (n : ℕ) → 1 + n ≡ suc n
one_more n = omega arith

module _ {S : Type 0} (n : ℤ) (state : Keeping S) where
  abbrev new : Replica S
  new = record { value = n; state = state }

  -- the leftmost replica for a value is given another state
  pub kept_for_set : (replicas : List (Replica S)) → position_or_len (is_for n) replicas < length replicas
      → kept_for (set replicas (position_or_len (is_for n) replicas) new) n ≡ state
  kept_for_set [] within = absurd (omega arith)
  kept_for_set (first ∷ replicas) within = at (is_for n first) refl within (kept_for_set replicas)
    where
      at : (b : Bool) → is_for n first ≡ b → cond (not b) (1 + position_or_len (is_for n) replicas) 0 < suc (length replicas)
          → (position_or_len (is_for n) replicas < length replicas → kept_for (set replicas (position_or_len (is_for n) replicas) new) n ≡ state)
          → kept_for (set (first ∷ replicas) (cond (not b) (1 + position_or_len (is_for n) replicas) 0) new) n ≡ state
      at true is here more = ap (λ b. cond b state (kept_for replicas n)) (int_refl n)
      at false is here more =
          ap (λ i. kept_for (set (first ∷ replicas) i new) n) (one_more (position_or_len (is_for n) replicas))
          ∙ ap (λ b. cond b first.state (kept_for (set replicas (position_or_len (is_for n) replicas) new) n)) is ∙ more (omega arith)

  pub kept_for_other : (replicas : List (Replica S)) (k : ℤ) → int_eq k n ≡ false
      → kept_for (set replicas (position_or_len (is_for n) replicas) new) k ≡ kept_for replicas k
  kept_for_other [] k other = refl
  kept_for_other (first ∷ replicas) k other = at (is_for n first) refl (kept_for_other replicas k other)
    where
      at : (b : Bool) → is_for n first ≡ b → kept_for (set replicas (position_or_len (is_for n) replicas) new) k ≡ kept_for replicas k
          → kept_for (set (first ∷ replicas) (cond (not b) (1 + position_or_len (is_for n) replicas) 0) new) k ≡ kept_for (first ∷ replicas) k
      at true is more =
          ap (λ b. cond b state (kept_for replicas k)) (int_other n n k (int_refl n) other)
          ∙ sym (ap (λ b. cond b first.state (kept_for replicas k)) (int_other first.value n k is other))
      at false is more =
          ap (λ i. kept_for (set (first ∷ replicas) i new) k) (one_more (position_or_len (is_for n) replicas))
          ∙ ap (λ (p : Keeping S). cond (is_for k first) first.state p) more

  -- a replica is added where none was for its value
  pub kept_for_none : (replicas : List (Replica S)) → length replicas ≤ position_or_len (is_for n) replicas → kept_for replicas n ≡ Fresh
  kept_for_none [] past = refl
  kept_for_none (first ∷ replicas) past = at (is_for n first) past (kept_for_none replicas)
    where
      at : (b : Bool) → suc (length replicas) ≤ cond (not b) (1 + position_or_len (is_for n) replicas) 0
          → (length replicas ≤ position_or_len (is_for n) replicas → kept_for replicas n ≡ Fresh) → cond b first.state (kept_for replicas n) ≡ Fresh
      at true here more = absurd (omega arith)
      at false here more = more (omega arith)

  pub kept_for_end : (replicas : List (Replica S)) → length replicas ≤ position_or_len (is_for n) replicas → kept_for (replicas ++ new ∷ []) n ≡ state
  kept_for_end [] past = ap (λ b. cond b state Fresh) (int_refl n)
  kept_for_end (first ∷ replicas) past = at (is_for n first) past (kept_for_end replicas)
    where
      at : (b : Bool) → suc (length replicas) ≤ cond (not b) (1 + position_or_len (is_for n) replicas) 0
          → (length replicas ≤ position_or_len (is_for n) replicas → kept_for (replicas ++ new ∷ []) n ≡ state) → cond b first.state (kept_for (replicas ++ new ∷ []) n) ≡ state
      at true here more = absurd (omega arith)
      at false here more = more (omega arith)

  pub kept_for_before : (replicas : List (Replica S)) (k : ℤ) → int_eq k n ≡ false → kept_for (replicas ++ new ∷ []) k ≡ kept_for replicas k
  kept_for_before [] k other = ap (λ b. cond b state Fresh) (int_other n n k (int_refl n) other)
  kept_for_before (first ∷ replicas) k other = ap (λ (p : Keeping S). cond (is_for k first) first.state p) (kept_for_before replicas k other)

-- the body of a level of a star went on
module _ (star : StarParts) (bodies : List Kept) where
  pub level_set : (i : ℕ) (state other : Kept) → i < length bodies → Same star.body state other
      → SameLevels star (with_level (kept_at bodies) i state) (kept_at (set bodies i other))
  level_set i state other within same j = at (j == i) refl
    where
      at : (b : Bool) → (j == i) ≡ b → Same star.body (cond b state (kept_at bodies j)) (kept_at (set bodies i other) j)
      at true is =
          let here : j ≡ i = grind (arith, nat_tests, is) in
          subst (λ k. Same star.body state (kept_at (set bodies i other) k)) (sym here)
          (subst (λ (p : Kept). Same star.body state p) (sym (kept_at_set bodies i other within)) same)
      at false is =
          let elsewhere : j ≢ i = grind (arith, nat_tests, is) in
          subst (λ (p : Kept). Same star.body (kept_at bodies j) p) (sym (kept_at_other bodies i j other elsewhere)) (same_refl star.body (kept_at bodies j))

  -- a body was added, which kept nothing that matters so far
  pub level_added : (state : Kept) → Same star.body Fresh state → SameLevels star (kept_at bodies) (kept_at (bodies ++ state ∷ []))
  level_added state same j = at (j == length bodies) refl
    where
      at : (b : Bool) → (j == length bodies) ≡ b → Same star.body (kept_at bodies j) (kept_at (bodies ++ state ∷ []) j)
      at true is =
          let here : j ≡ length bodies = grind (arith, nat_tests, is) in
          subst (λ k. Same star.body (kept_at bodies k) (kept_at (bodies ++ state ∷ []) k)) (sym here)
          (subst (λ (p : Kept). Same star.body (kept_at bodies (length bodies)) p) (sym (kept_at_end bodies state))
          (subst (λ (p : Kept). Same star.body p state) (sym (kept_at_past bodies)) same))
      at false is =
          let before : j ≢ length bodies = grind (arith, nat_tests, is) in
          subst (λ (p : Kept). Same star.body (kept_at bodies j) p) (sym (kept_at_before bodies j state before)) (same_refl star.body (kept_at bodies j))
