-- States that stand for one in which nothing is kept yet, and steps from states that a tree cannot tell apart.
use Rattle.std.proofs.Common.{◌≡◌, ℕ, ℤ, zero, suc, List, map, sym, ap, ◌∙◌, subst}
use Rattle.sn_record.specs.LabelSet.{Labels}
use Rattle.sn_streams.specs.Keys.{Key as StreamKey, Own, Branch, Inside, Value}
use Rattle.sn_streams.specs.Machines.{emitted}
use Rattle.sn_streams.specs.Trees.{Tree, Series, passing, with_own}
use Rattle.sn_net.specs.declared.net.Merge.{Merge}
use Rattle.sn_net.specs.declared.net.Net.{Net}
use Rattle.sn_net.specs.declared.net.Net.TheVariants.{Sync, Serial, Choice, Split}
use Rattle.sn_net.specs.Cell.{CellState, Passing, new_cell}
use Rattle.sn_net.specs.Dispatchers.{Network, router, choice, inside_child, split}
use Rattle.sn_net.specs.Route.{choice_key, of_record, split_key}
use Rattle.sn_model.specs.Meaning.{Setting, tree}
use Rattle.sn_model.proofs.Forms.{tree-Sync, tree-Serial, tree-Choice, tree-Split}
use Rattle.sn_pass.specs.Held.{LevelsOf, all, none, kept_at, branches_held, levels_held, replicas_held}
use Rattle.sn_pass.specs.Levels.{StarParts, key_here, star_tree}
use Rattle.sn_model.specs.Components.{cell}
use Rattle.sn_pass.specs.Keeping.{Keeping, Fresh, At, Both, state_or, child_of, left_of, right_of, keeping, Same}
use Rattle.sn_pass.specs.Steps.{Steps, Runs}
use Rattle.sn_pass.proofs.Dispatching.{branch_at, replica_at}
use Rattle.sn_pass.proofs.Keeping.{passing_same, same_refl, same_trans, same_emits, same_next, same_sym, same_emitted, same_after}

abbrev Kept : Type 0
Kept = Keeping CellState

module _ {A S : Type 0} (t : Tree A S) (q p : Keeping S) (same : Same t q p) where
  pub steps_from : (x : A) (ys : List A) (later : Keeping S) → Steps t p x ys later → Steps t q x ys later
  steps_from x ys later step = record {
    gives = same_emits t q p same x ∙ step.gives;
    keeps = same_trans t later ((keeping t).next p x) ((keeping t).next q x) step.keeps (same_next t p q (same_sym t q p same) x);
  }

  pub runs_from : (xs ys : List A) (later : Keeping S) → Runs t p xs ys later → Runs t q xs ys later
  runs_from xs ys later run = record {
    gives = same_emitted t q p same xs ∙ run.gives;
    keeps = same_trans t later _ _ run.keeps (same_after t p q (same_sym t q p same) xs);
  }

-- a tree that is known up to a path
same_at : (t u : Network) (q p : Kept) → t ≡ u → Same u q p → Same t q p
same_at t u q p is same = subst (λ (v : Network). Same v q p) (sym is) same

-- equal states
same_where : (t : Network) (q p : Kept) → q ≡ p → Same t q p
same_where t q p is = subst (λ (u : Kept). Same t q u) is (same_refl t q)

-- where nothing is kept for a star's first body, nothing is kept for the star
module _ (star : StarParts) where
  nothing_inside : (left : ℕ) (q : Kept) → child_of q Inside ≡ Fresh → Same (star_tree star left) q Fresh
  nothing_inside zero q nothing = at
    where
      at : (k : StreamKey) → Same (with_own (router star.place (key_here star zero)) Passing (λ k. passing (router star.place (key_here star zero)) Passing) k) (child_of q k) Fresh
      at Own = passing_same (router star.place (key_here star zero)) Passing (child_of q Own) Fresh
      at Inside = passing_same (router star.place (key_here star zero)) Passing (child_of q Inside) Fresh
      at (Branch i) = passing_same (router star.place (key_here star zero)) Passing (child_of q (Branch i)) Fresh
      at (Value n) = passing_same (router star.place (key_here star zero)) Passing (child_of q (Value n)) Fresh
  nothing_inside (suc left) q nothing = at
    where
      at : (k : StreamKey) → Same (with_own (router star.place (key_here star (suc left))) Passing
          (inside_child (Series star.body (star_tree star left)) (passing (router star.place (key_here star (suc left))) Passing)) k) (child_of q k) Fresh
      at Own = passing_same (router star.place (key_here star (suc left))) Passing (child_of q Own) Fresh
      at Inside = same_where (Series star.body (star_tree star left)) (child_of q Inside) Fresh nothing
      at (Branch i) = passing_same (router star.place (key_here star (suc left))) Passing (child_of q (Branch i)) Fresh
      at (Value n) = passing_same (router star.place (key_here star (suc left))) Passing (child_of q (Value n)) Fresh

-- a star from what a list says that its bodies keep
pub levels_from : (star : StarParts) (left : ℕ) (q : Kept) (bodies : List Kept) → LevelsOf q bodies → Same (star_tree star left) q (levels_held bodies)
levels_from star left q bodies (all is) = same_where (star_tree star left) q (levels_held bodies) is
levels_from star left q bodies (none empty inside) =
    subst (λ (ks : List Kept). Same (star_tree star left) q (levels_held ks)) (sym empty) (nothing_inside star left q inside)

module _ (s : Setting) (q : Kept) where
  pub sync_from : (place : ℕ) (patterns : List Labels) (state : CellState) → state ≡ state_or (new_cell patterns) q → Same (tree s (Sync place patterns)) q (At state)
  sync_from place patterns state is = same_at _ _ q (At state) (tree-Sync s place patterns) (λ xs. ap (λ known. emitted (cell place patterns) known xs) (sym is))

  pub serial_from : (left right : Net) (l r : Kept) → l ≡ left_of q → r ≡ right_of q → Same (tree s (Serial left right)) q (Both l r)
  serial_from left right l r of_left of_right =
      same_at _ _ q (Both l r) (tree-Serial s left right) (same_where (tree s left) (left_of q) l (sym of_left), same_where (tree s right) (right_of q) r (sym of_right))

  pub choice_from : (place : ℕ) (m : Merge) (branches : List Net) (faces : List (List Labels)) (states : List Kept) → ((i : ℕ) → kept_at states i ≡ child_of q (Branch i))
      → Same (tree s (Choice place m branches faces)) q (branches_held states)
  choice_from place m branches faces states are =
      same_at _ (choice place m faces (map (tree s) branches)) q (branches_held states) (tree-Choice s place m branches faces) at
    where
      at : (k : StreamKey) → Same (branch_at place m faces (map (tree s) branches) k) (child_of q k) (child_of (branches_held states) k)
      at (Branch i) = same_where _ (child_of q (Branch i)) (kept_at states i) (sym (are i))
      at Own = passing_same (router place (of_record (choice_key faces))) Passing (child_of q Own) Fresh
      at Inside = passing_same (router place (of_record (choice_key faces))) Passing (child_of q Inside) Fresh
      at (Value n) = passing_same (router place (of_record (choice_key faces))) Passing (child_of q (Value n)) Fresh

  pub split_from : (place : ℕ) (m : Merge) (body : Net) (id : ℕ) (states : ℤ → Kept) → ((n : ℤ) → states n ≡ child_of q (Value n))
      → Same (tree s (Split place m body id)) q (replicas_held states)
  split_from place m body id states are =
      same_at _ (split place m id (tree s body)) q (replicas_held states) (tree-Split s place m body id) at
    where
      at : (k : StreamKey) → Same (replica_at place m id (tree s body) k) (child_of q k) (child_of (replicas_held states) k)
      at (Value n) = same_where (tree s body) (child_of q (Value n)) (states n) (sym (are n))
      at Own = passing_same (router place (of_record (split_key id))) Passing (child_of q Own) Fresh
      at Inside = passing_same (router place (of_record (split_key id))) Passing (child_of q Inside) Fresh
      at (Branch i) = passing_same (router place (of_record (split_key id))) Passing (child_of q (Branch i)) Fresh
