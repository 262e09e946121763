-- What each form of network does with an item, from what its parts do.
use Rattle.std.proofs.Common.{◌≡◌, ◌≢◌, ℕ, ℤ, false, List, [], ◌∷◌, ◌++◌, map, refl, sym, ap, ap₂, ◌∙◌, subst, append-nil, append_assoc}
use Rattle.std.specs.Prelude.{Option, Some, slice_get}
use Rattle.std.specs.Option.{option_map}
use Rattle.std.specs.Ordering.{int_eq}
use Rattle.std.proofs.lemmas.Option.{slice_get-map}
use Rattle.sn_record.specs.LabelSet.{Labels}
use Rattle.sn_record.specs.Record.{Entries}
use Rattle.sn_streams.specs.Keys.{Key as StreamKey, Own, Branch, Inside, Value, key_eq}
use Rattle.sn_streams.specs.Machines.{after, emitted}
use Rattle.sn_streams.specs.Trees.{Series}
use Rattle.sn_streams.proofs.Keys.{key_eq-refl}
use Rattle.sn_streams.proofs.Machines.{emitted-append, after-append}
use Rattle.sn_tagexpr.specs.declared.expr.TagExpr.{TagExpr}
use Rattle.sn_net.specs.declared.filter.Filter.{Filter}
use Rattle.sn_net.specs.declared.net.Merge.{Merge}
use Rattle.sn_net.specs.declared.net.Net.{Net}
use Rattle.sn_net.specs.declared.net.Net.TheVariants.{Box, Filter as FilterLeaf, Sync, Serial, Choice, Star, Split}
use Rattle.sn_net.specs.Cell.{CellState, Passing, cell_emits, cell_next, new_cell}
use Rattle.sn_net.specs.Dispatchers.{Network, choice, level, router, split}
use Rattle.sn_net.specs.Item.{ModelItem, Rec}
use Rattle.sn_net.specs.Route.{choice_key, of_record, split_key}
use Rattle.sn_model.specs.Components.{box_item, cell, filter_item}
use Rattle.sn_model.specs.Meaning.{Setting, tree}
use Rattle.sn_model.proofs.Forms.{tree-Box, tree-Choice, tree-Filter, tree-Serial, tree-Split, tree-Star, tree-Sync}
use Rattle.sn_pass.specs.Keeping.{Keeping, Same, child_of, keeping, left_of, right_of, state_or}
use Rattle.sn_pass.specs.Passing.{GoesToBranch, GoesToReplica, PassedBy, Passes, PassesAll}
use Rattle.sn_pass.proofs.Dispatching.{branch_at, branch_emits, branch_next, choice_passes_emits, choice_passes_next, replica_at, replica_emits, replica_next, split_passes_emits, split_passes_next}
use Rattle.sn_pass.proofs.Keeping.{passing_same, same_refl, same_sym, same_trans, same_emits, same_next}

abbrev Kept : Type 0
Kept = Keeping CellState

-- a tree that is known up to a path
passes_at : (t u : Network) (q p : Kept) (x : ModelItem) (out grown : List ModelItem) → t ≡ u → Passes u q p x out grown → Passes t q p x out grown
passes_at t u q p x out grown is passes = subst (λ (v : Network). Passes v q p x out grown) (sym is) passes

same_where : (t : Network) (q p : Kept) → q ≡ p → Same t q p
same_where t q p is = subst (λ (u : Kept). Same t q u) is (same_refl t q)

module _ (t : Network) (start : Kept) (out : List ModelItem) where
  pub through_none : PassesAll t start start [] out out
  through_none = record { gives = sym (append-nil out); keeps = same_refl t start }

  pub through_more : (xs grown more : List ModelItem) (now later : Kept) (x : ModelItem) → PassesAll t start now xs out grown → Passes t now later x grown more → PassesAll t start later (xs ++ x ∷ []) out more
  through_more xs grown more now later x before step =
      let known : Kept = after (keeping t) start xs in
      record {
        gives =
            step.gives ∙ ap (λ ys. ys ++ (keeping t).emits now x) before.gives
            ∙ append_assoc out (emitted (keeping t) start xs) ((keeping t).emits now x)
            ∙ ap (λ ys. out ++ ys)
            (ap (λ ys. emitted (keeping t) start xs ++ ys) (same_emits t now known before.keeps x ∙ sym (append-nil ((keeping t).emits known x)))
            ∙ sym (emitted-append (keeping t) start xs (x ∷ [])));
        keeps =
            subst (λ (p : Kept). Same t later p) (sym (after-append (keeping t) start xs (x ∷ [])))
            (same_trans t later ((keeping t).next now x) ((keeping t).next known x) step.keeps (same_next t now known before.keeps x));
      }

-- what the left part of a series gives went through the right part
pub serial_passes : (a b : Network) (q later l r first second : Kept) (x : ModelItem) (between out grown : List ModelItem) → l ≡ left_of q → r ≡ right_of q
    → Passes a l first x [] between → PassesAll b r second between out grown → left_of later ≡ first → right_of later ≡ second
    → Passes (Series a b) q later x out grown
serial_passes a b q later l r first second x between out grown of_left of_right step through later_left later_right =
    let mid : between ≡ (keeping a).emits (left_of q) x = step.gives ∙ ap (λ (p : Kept). (keeping a).emits p x) of_left in
    record {
      gives = through.gives ∙ ap (λ ys. out ++ ys) (ap (emitted (keeping b) r) mid ∙ ap (λ (p : Kept). emitted (keeping b) p ((keeping a).emits (left_of q) x)) of_right);
      keeps = (
        subst (λ (p : Kept). Same a p ((keeping a).next (left_of q) x)) (sym later_left) (subst (λ (p : Kept). Same a first ((keeping a).next p x)) of_left step.keeps),
        subst (λ (p : Kept). Same b p (after (keeping b) (right_of q) ((keeping a).emits (left_of q) x))) (sym later_right)
            (subst (λ (p : Kept). Same b second (after (keeping b) p ((keeping a).emits (left_of q) x))) of_right
            (subst (λ (ys : List ModelItem). Same b second (after (keeping b) r ys)) mid through.keeps)),
      );
    }

module _ (s : Setting) where
  pub box_passes : (place number : ℕ) (q : Kept) (x : ModelItem) (out grown : List ModelItem) → grown ≡ out ++ box_item s.boxes s.fuel place number x → Passes (tree s (Box place number)) q q x out grown
  box_passes place number q x out grown is = passes_at _ _ q q x out grown (tree-Box s place number) (record { gives = is; keeps = λ xs. refl })

  pub filter_passes : (filter : Filter) (q : Kept) (x : ModelItem) (out grown : List ModelItem) → grown ≡ out ++ filter_item filter x → Passes (tree s (FilterLeaf filter)) q q x out grown
  filter_passes filter q x out grown is = passes_at _ _ q q x out grown (tree-Filter s filter) (record { gives = is; keeps = λ xs. refl })

  pub sync_passes : (place : ℕ) (patterns : List Labels) (q later : Kept) (x : ModelItem) (out grown : List ModelItem)
      → grown ≡ out ++ cell_emits place patterns (state_or (new_cell patterns) q) x → state_or (new_cell patterns) later ≡ cell_next patterns (state_or (new_cell patterns) q) x
      → Passes (tree s (Sync place patterns)) q later x out grown
  sync_passes place patterns q later x out grown gives keeps =
      passes_at _ _ q later x out grown (tree-Sync s place patterns) (record { gives = gives; keeps = λ xs. ap (λ known. emitted (cell place patterns) known xs) keeps })

  pub series_passes : (left right : Net) (q later : Kept) (x : ModelItem) (out grown : List ModelItem) → Passes (Series (tree s left) (tree s right)) q later x out grown
      → Passes (tree s (Serial left right)) q later x out grown
  series_passes left right q later x out grown passes = passes_at _ _ q later x out grown (tree-Serial s left right) passes

  module _ (place : ℕ) (m : Merge) (branches : List Net) (faces : List (List Labels)) where
    pub choice_passed : (q : Kept) (x : ModelItem) (out grown : List ModelItem) → PassedBy place (of_record (choice_key faces) x) x out grown → Passes (tree s (Choice place m branches faces)) q q x out grown
    choice_passed q x out grown by =
        let whole : Network = choice place m faces (map (tree s) branches) in
        passes_at _ whole q q x out grown (tree-Choice s place m branches faces)
        (record {
          gives = by.given ∙ ap (λ ys. out ++ ys) (sym (choice_passes_emits place m faces (map (tree s) branches) q x by.past));
          keeps = same_sym whole ((keeping whole).next q x) q (choice_passes_next place m faces (map (tree s) branches) q x by.past);
        })

    pub choice_goes : (i : ℕ) (branch : Net) (q later state after : Kept) (x : ModelItem) (r : Entries) (out mid grown : List ModelItem) → GoesToBranch faces x i r out mid → slice_get branches i ≡ Some branch
        → state ≡ child_of q (Branch i) → Passes (tree s branch) state after (Rec r) mid grown → child_of later (Branch i) ≡ after
        → ((j : ℕ) → j ≢ i → child_of later (Branch j) ≡ child_of q (Branch j))
        → Passes (tree s (Choice place m branches faces)) q later x out grown
    choice_goes i branch q later state after x r out mid grown goes there taken step put others =
        let trees : List Network = map (tree s) branches in
        let whole : Network = choice place m faces trees in
        let tree_there : slice_get trees i ≡ Some (tree s branch) = slice_get-map (tree s) branches i ∙ ap (option_map (tree s)) there in
        let t : Network = tree s branch in
        passes_at _ whole q later x out grown (tree-Choice s place m branches faces)
        (record {
          gives =
              step.gives
              ∙ ap₂ (λ ys zs. ys ++ zs) goes.nothing
              (ap₂ (λ (p : Kept) (y : ModelItem). (keeping t).emits p y) taken (sym goes.item) ∙ sym (branch_emits place m faces trees i t q x goes.key tree_there));
          keeps =
              branch_next place m faces trees i t q later x goes.key tree_there
              (subst (λ (p : Kept). Same t p ((keeping t).next (child_of q (Branch i)) x)) (sym put)
              (subst (λ (p : Kept). Same t after ((keeping t).next p x)) taken (subst (λ (y : ModelItem). Same t after ((keeping t).next state y)) (sym goes.item) step.keeps)))
              elsewhere;
        })
      where
        elsewhere : (k : StreamKey) → key_eq k (Branch i) ≡ false → Same (branch_at place m faces (map (tree s) branches) k) (child_of later k) (child_of q k)
        elsewhere (Branch j) other =
            same_where _ (child_of later (Branch j)) (child_of q (Branch j)) (others j (λ is. let test = key_eq-refl (Branch i) in let same = ap (λ n. key_eq (Branch n) (Branch i)) is in cc))
        elsewhere Own other = passing_same (router place (of_record (choice_key faces))) Passing (child_of later Own) (child_of q Own)
        elsewhere Inside other = passing_same (router place (of_record (choice_key faces))) Passing (child_of later Inside) (child_of q Inside)
        elsewhere (Value n) other = passing_same (router place (of_record (choice_key faces))) Passing (child_of later (Value n)) (child_of q (Value n))

  module _ (place : ℕ) (m : Merge) (body : Net) (id : ℕ) where
    pub split_passed : (q : Kept) (x : ModelItem) (out grown : List ModelItem) → PassedBy place (of_record (split_key id) x) x out grown → Passes (tree s (Split place m body id)) q q x out grown
    split_passed q x out grown by =
        let whole : Network = split place m id (tree s body) in
        passes_at _ whole q q x out grown (tree-Split s place m body id)
        (record {
          gives = by.given ∙ ap (λ ys. out ++ ys) (sym (split_passes_emits place m id (tree s body) q x by.past));
          keeps = same_sym whole ((keeping whole).next q x) q (split_passes_next place m id (tree s body) q x by.past);
        })

    pub split_goes : (n : ℤ) (q later state after : Kept) (x : ModelItem) (r : Entries) (out mid grown : List ModelItem) → GoesToReplica id x n r out mid
        → state ≡ child_of q (Value n) → Passes (tree s body) state after (Rec r) mid grown → child_of later (Value n) ≡ after
        → ((k : ℤ) → int_eq k n ≡ false → child_of later (Value k) ≡ child_of q (Value k))
        → Passes (tree s (Split place m body id)) q later x out grown
    split_goes n q later state after x r out mid grown goes taken step put others =
        let t : Network = tree s body in
        let whole : Network = split place m id t in
        passes_at _ whole q later x out grown (tree-Split s place m body id)
        (record {
          gives =
              step.gives
              ∙ ap₂ (λ ys zs. ys ++ zs) goes.nothing
              (ap₂ (λ (p : Kept) (y : ModelItem). (keeping t).emits p y) taken (sym goes.item) ∙ sym (replica_emits place m id t n q x goes.key));
          keeps =
              replica_next place m id t n q later x goes.key
              (subst (λ (p : Kept). Same t p ((keeping t).next (child_of q (Value n)) x)) (sym put)
              (subst (λ (p : Kept). Same t after ((keeping t).next p x)) taken (subst (λ (y : ModelItem). Same t after ((keeping t).next state y)) (sym goes.item) step.keeps)))
              elsewhere;
        })
      where
        elsewhere : (k : StreamKey) → key_eq k (Value n) ≡ false → Same (replica_at place m id (tree s body) k) (child_of later k) (child_of q k)
        elsewhere (Value k) other = same_where _ (child_of later (Value k)) (child_of q (Value k)) (others k other)
        elsewhere Own other = passing_same (router place (of_record (split_key id))) Passing (child_of later Own) (child_of q Own)
        elsewhere Inside other = passing_same (router place (of_record (split_key id))) Passing (child_of later Inside) (child_of q Inside)
        elsewhere (Branch i) other = passing_same (router place (of_record (split_key id))) Passing (child_of later (Branch i)) (child_of q (Branch i))

  pub star_passes : (place : ℕ) (m : Merge) (body : Net) (exit : Labels) (guard : Option TagExpr) (q later : Kept) (x : ModelItem) (out grown : List ModelItem)
      → Passes (level place m exit guard (tree s body) s.depth) q later x out grown → Passes (tree s (Star place m body exit guard)) q later x out grown
  star_passes place m body exit guard q later x out grown passes = passes_at _ _ q later x out grown (tree-Star s place m body exit guard) passes
