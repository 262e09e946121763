-- What dispatchers, components and series give for an item, and what they keep then.
use Rattle.std.proofs.Common.{◌≡◌, ℕ, ℤ, Bool, true, false, cond, List, [], ◌∷◌, refl, sym, ap, ◌∙◌, subst}
use Rattle.std.specs.Prelude.{slice_get, Option, Some, unwrap_or}
use Rattle.sn_record.specs.LabelSet.{Labels}
use Rattle.sn_streams.specs.Keys.{Key as StreamKey, Own, Branch, Value, key_eq}
use Rattle.sn_streams.specs.Machines.{emitted, after}
use Rattle.sn_streams.specs.Trees.{Tree, Series, Component, passing, with_own}
use Rattle.sn_streams.proofs.Keys.{same_key}
use Rattle.sn_net.specs.declared.net.Merge.{Merge}
use Rattle.sn_net.specs.declared.routing.Key.{Key}
use Rattle.sn_net.specs.Cell.{CellState, Passing, new_cell, cell_next, cell_emits}
use Rattle.sn_net.specs.Dispatchers.{Network, stream_key, passed_by, router, dispatched, branch_child, choice, replica_child, split}
use Rattle.sn_net.specs.Item.{ModelItem}
use Rattle.sn_net.specs.Route.{choice_key, split_key, of_record}
use Rattle.sn_model.specs.Components.{alone, cell}
use Rattle.sn_pass.specs.Keeping.{Keeping, At, Both, state_or, left_of, right_of, child_of, keeping, Same}
use Rattle.sn_pass.proofs.Keeping.{same_refl}

-- what a network of S-Net keeps
abbrev pub Kept : Type 0
Kept = Keeping CellState

-- any dispatcher, at a place, which sends each item by its key
module _ (m : Merge) (place : ℕ) (key_of : ModelItem → Key) (child : Network → StreamKey → Network) where
  abbrev whole : Network
  whole = dispatched m (router place key_of) child

  -- its children, with what passes them by at the key Own
  abbrev part : StreamKey → Network
  part = with_own (router place key_of) Passing (child (passing (router place key_of) Passing))

  still : (q : Kept) (x : ModelItem) (k : StreamKey) → Same (part k) (cond (key_eq k Own) ((keeping (part k)).next (child_of q k) x) (child_of q k)) (child_of q k)
  still q x Own = λ xs. refl
  still q x k = same_refl (part k) (child_of q k)

  -- an item that passes all children by is given out as what becomes of it, and nothing changes
  pub passes_emits : (q : Kept) (x : ModelItem) → stream_key (key_of x) ≡ Own → (keeping whole).emits q x ≡ passed_by place (key_of x) x ∷ []
  passes_emits q x past = ap (λ k. (keeping (part k)).emits (child_of q k) x) past

  pub passes_next : (q : Kept) (x : ModelItem) → stream_key (key_of x) ≡ Own → Same whole ((keeping whole).next q x) q
  passes_next q x past =
      λ k. subst (λ key. Same (part k) (cond (key_eq k key) ((keeping (part k)).next (child_of q k) x) (child_of q k)) (child_of q k)) (sym past) (still q x k)

  -- an item with the key of a child goes through that child alone
  pub goes_emits : (k : StreamKey) (q : Kept) (x : ModelItem) → stream_key (key_of x) ≡ k → (keeping whole).emits q x ≡ (keeping (part k)).emits (child_of q k) x
  goes_emits k q x goes = ap (λ key. (keeping (part key)).emits (child_of q key) x) goes

  pub goes_next : (k : StreamKey) (q later : Kept) (x : ModelItem) → stream_key (key_of x) ≡ k
      → Same (part k) (child_of later k) ((keeping (part k)).next (child_of q k) x)
      → ((j : StreamKey) → key_eq j k ≡ false → Same (part j) (child_of later j) (child_of q j))
      → Same whole later ((keeping whole).next q x)
  goes_next k q later x goes here elsewhere =
      λ j. subst (λ key. Same (part j) (child_of later j) (cond (key_eq j key) ((keeping (part j)).next (child_of q j) x) (child_of q j))) (sym goes) (at j (key_eq j k) refl)
    where
      at : (j : StreamKey) (b : Bool) → key_eq j k ≡ b → Same (part j) (child_of later j) (cond b ((keeping (part j)).next (child_of q j) x) (child_of q j))
      at j true is = subst (λ key. Same (part key) (child_of later key) ((keeping (part key)).next (child_of q key) x)) (sym (same_key j k is)) here
      at j false is = elsewhere j is

  -- the same where nothing at all changes elsewhere
  pub goes_alone : (k : StreamKey) (q later : Kept) (x : ModelItem) → stream_key (key_of x) ≡ k
      → Same (part k) (child_of later k) ((keeping (part k)).next (child_of q k) x)
      → ((j : StreamKey) → key_eq j k ≡ false → child_of later j ≡ child_of q j)
      → Same whole later ((keeping whole).next q x)
  goes_alone k q later x goes here elsewhere =
      goes_next k q later x goes here
      (λ j other. subst (λ (p : Kept). Same (part j) p (child_of q j)) (sym (elsewhere j other)) (same_refl (part j) (child_of q j)))

-- a choice
module _ (place : ℕ) (m : Merge) (faces : List (List Labels)) (branches : List Network) where
  abbrev choice_of : ModelItem → Key
  choice_of = of_record (choice_key faces)

  -- its branch at a key, or what passes by
  abbrev pub branch_at : StreamKey → Network
  branch_at = with_own (router place choice_of) Passing (branch_child branches (passing (router place choice_of) Passing))

  pub choice_passes_emits : (q : Kept) (x : ModelItem) → stream_key (of_record (choice_key faces) x) ≡ Own
      → (keeping (choice place m faces branches)).emits q x ≡ passed_by place (of_record (choice_key faces) x) x ∷ []
  choice_passes_emits = passes_emits m place choice_of (branch_child branches)

  pub choice_passes_next : (q : Kept) (x : ModelItem) → stream_key (of_record (choice_key faces) x) ≡ Own
      → Same (choice place m faces branches) ((keeping (choice place m faces branches)).next q x) q
  choice_passes_next = passes_next m place choice_of (branch_child branches)

  -- the branch of a number, where it is there
  branch_is : (i : ℕ) (branch : Network) → slice_get branches i ≡ Some branch → branch_at (Branch i) ≡ branch
  branch_is i branch there = ap (λ (found : Option Network). unwrap_or found (passing (router place choice_of) Passing)) there

  pub branch_emits : (i : ℕ) (branch : Network) (q : Kept) (x : ModelItem) → stream_key (of_record (choice_key faces) x) ≡ Branch i → slice_get branches i ≡ Some branch
      → (keeping (choice place m faces branches)).emits q x ≡ (keeping branch).emits (child_of q (Branch i)) x
  branch_emits i branch q x goes there =
      goes_emits m place choice_of (branch_child branches) (Branch i) q x goes ∙ ap (λ (t : Network). (keeping t).emits (child_of q (Branch i)) x) (branch_is i branch there)

  pub branch_next : (i : ℕ) (branch : Network) (q later : Kept) (x : ModelItem) → stream_key (of_record (choice_key faces) x) ≡ Branch i → slice_get branches i ≡ Some branch
      → Same branch (child_of later (Branch i)) ((keeping branch).next (child_of q (Branch i)) x)
      → ((j : StreamKey) → key_eq j (Branch i) ≡ false → Same (branch_at j) (child_of later j) (child_of q j))
      → Same (choice place m faces branches) later ((keeping (choice place m faces branches)).next q x)
  branch_next i branch q later x goes there here elsewhere =
      goes_next m place choice_of (branch_child branches) (Branch i) q later x goes
      (subst (λ (t : Network). Same t (child_of later (Branch i)) ((keeping t).next (child_of q (Branch i)) x)) (sym (branch_is i branch there)) here) elsewhere

  -- the same where nothing at all changes elsewhere
  pub branch_alone : (i : ℕ) (branch : Network) (q later : Kept) (x : ModelItem) → stream_key (of_record (choice_key faces) x) ≡ Branch i → slice_get branches i ≡ Some branch
      → Same branch (child_of later (Branch i)) ((keeping branch).next (child_of q (Branch i)) x)
      → ((j : StreamKey) → key_eq j (Branch i) ≡ false → child_of later j ≡ child_of q j)
      → Same (choice place m faces branches) later ((keeping (choice place m faces branches)).next q x)
  branch_alone i branch q later x goes there here elsewhere =
      goes_alone m place choice_of (branch_child branches) (Branch i) q later x goes
      (subst (λ (t : Network). Same t (child_of later (Branch i)) ((keeping t).next (child_of q (Branch i)) x)) (sym (branch_is i branch there)) here) elsewhere

-- a split
module _ (place : ℕ) (m : Merge) (id : ℕ) (body : Network) where
  abbrev split_of : ModelItem → Key
  split_of = of_record (split_key id)

  -- its replica at a key, or what passes by
  abbrev pub replica_at : StreamKey → Network
  replica_at = with_own (router place split_of) Passing (replica_child body (passing (router place split_of) Passing))

  pub split_passes_emits : (q : Kept) (x : ModelItem) → stream_key (of_record (split_key id) x) ≡ Own
      → (keeping (split place m id body)).emits q x ≡ passed_by place (of_record (split_key id) x) x ∷ []
  split_passes_emits = passes_emits m place split_of (replica_child body)

  pub split_passes_next : (q : Kept) (x : ModelItem) → stream_key (of_record (split_key id) x) ≡ Own
      → Same (split place m id body) ((keeping (split place m id body)).next q x) q
  split_passes_next = passes_next m place split_of (replica_child body)

  pub replica_emits : (n : ℤ) (q : Kept) (x : ModelItem) → stream_key (of_record (split_key id) x) ≡ Value n
      → (keeping (split place m id body)).emits q x ≡ (keeping body).emits (child_of q (Value n)) x
  replica_emits n q x goes = goes_emits m place split_of (replica_child body) (Value n) q x goes

  pub replica_next : (n : ℤ) (q later : Kept) (x : ModelItem) → stream_key (of_record (split_key id) x) ≡ Value n
      → Same body (child_of later (Value n)) ((keeping body).next (child_of q (Value n)) x)
      → ((j : StreamKey) → key_eq j (Value n) ≡ false → Same (replica_at j) (child_of later j) (child_of q j))
      → Same (split place m id body) later ((keeping (split place m id body)).next q x)
  replica_next n q later x goes here elsewhere = goes_next m place split_of (replica_child body) (Value n) q later x goes here elsewhere

  -- the same where nothing at all changes elsewhere
  pub replica_alone : (n : ℤ) (q later : Kept) (x : ModelItem) → stream_key (of_record (split_key id) x) ≡ Value n
      → Same body (child_of later (Value n)) ((keeping body).next (child_of q (Value n)) x)
      → ((j : StreamKey) → key_eq j (Value n) ≡ false → child_of later j ≡ child_of q j)
      → Same (split place m id body) later ((keeping (split place m id body)).next q x)
  replica_alone n q later x goes here elsewhere = goes_alone m place split_of (replica_child body) (Value n) q later x goes here elsewhere

-- a component that answers each item alone keeps nothing that matters
pub alone_emits : (answer : ModelItem → List ModelItem) (q : Kept) (x : ModelItem) → (keeping (alone answer)).emits q x ≡ answer x
alone_emits answer q x = refl

pub alone_next : (answer : ModelItem → List ModelItem) (q : Kept) (x : ModelItem) → Same (alone answer) ((keeping (alone answer)).next q x) q
alone_next answer q x = λ xs. refl

-- a synchrocell goes by its own step
module _ (place : ℕ) (patterns : List Labels) where
  abbrev pub cell_tree : Network
  cell_tree = Component (cell place patterns) (new_cell patterns)

  pub cell_gives : (q : Kept) (x : ModelItem) → (keeping cell_tree).emits q x ≡ cell_emits place patterns (state_or (new_cell patterns) q) x
  cell_gives q x = refl

  pub cell_then : (q : Kept) (x : ModelItem) (state : CellState) → state ≡ cell_next patterns (state_or (new_cell patterns) q) x → Same cell_tree (At state) ((keeping cell_tree).next q x)
  cell_then q x state is = λ xs. ap (λ known. emitted (cell place patterns) known xs) is

-- a series runs what the left part gives through the right part
module _ {A S : Type 0} (left right : Tree A S) where
  pub series_emits : (q : Keeping S) (x : A) → (keeping (Series left right)).emits q x ≡ emitted (keeping right) (right_of q) ((keeping left).emits (left_of q) x)
  series_emits q x = refl

  pub series_next : (q l r : Keeping S) (x : A)
      → Same left l ((keeping left).next (left_of q) x) → Same right r (after (keeping right) (right_of q) ((keeping left).emits (left_of q) x))
      → Same (Series left right) (Both l r) ((keeping (Series left right)).next q x)
  series_next q l r x of_left of_right = (of_left, of_right)
