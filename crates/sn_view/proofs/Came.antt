-- Facts of a graph that some list of enabled events led to, where nothing is kept of these but that there are some.
use Rattle.std.proofs.Common.{◌≡◌, ℕ, suc, ◌≤◌, ◌<◌, IsTrue, Bool, true, cond, List, [], ◌∷◌, map, sym, length, Some, ap, ◌∙◌, subst}
use Rattle.std.specs.Prelude.{◌↔◌, IfSome, slice_get}
use Rattle.std.specs.List.{list_all, position_from}
use Rattle.std.specs.Coded.{le_prop}
use Rattle.std.specs.Option.{ForSome}
use Rattle.std.proofs.lemmas.Option.{slice_get_within}
use mathlib.Core.Bool.{Bool-set}
use mathlib.Core.HLevel.{×_prop, Π_prop, ⊥_prop}
use mathlib.Core.Logic.{∥∥₁_elim, ∥∥₁_map, ∥∥₁_prop}
use Rattle.sn_record.specs.Record.{Entries, Matches}
use Rattle.sn_streams.specs.Keys.{Key, AreDistinct, is_among, key_eq}
use Rattle.sn_streams.specs.Keys as key
use Rattle.sn_record.specs.LabelSet.{Labels}
use Rattle.sn_net.specs.declared.net.Merge.{Merge}
use Rattle.sn_net.specs.declared.net.Net.{Net}
use Rattle.sn_net.specs.declared.net.Net.TheOpen.{Net-F}
use Rattle.sn_net.specs.Dispatchers.{router}
use Rattle.sn_net.specs.declared.expr.BoxProgram.{BoxProgram}
use Rattle.sn_net.specs.Face.{variant_of}
use Rattle.sn_net.specs.Item.{ModelItem, Rec}
use Rattle.sn_net.specs.Route.{of_record, choice_key}
use Rattle.sn_net.specs.WellFormed.{FitsBoxes, IsWellFormed}
use Rattle.sn_model.specs.declared.run.Run.{Run}
use Rattle.sn_model.specs.Run.{MayGive, boxes_of, items_of, net_of}
use Rattle.sn_model.specs.Typed.{AreTyped}
use Rattle.sn_live.specs.Parts.{part}
use Rattle.sn_live.specs.Runs.{IsPrefixOf}
use Rattle.sn_live.proofs.Free.{part-Core}
use Rattle.sn_live.proofs.FreeLives.{part-Lives}
use Rattle.sn_live.proofs.Runs.{some_stream, out_is_prefix}
use Rattle.sn_view.specs.Apart.{HasChild, HasOwnFirst}
use Rattle.sn_view.specs.Calls.{FliesAt}
use Rattle.sn_view.specs.Chains.{Comes, Started, Then}
use Rattle.sn_view.specs.Coming.{MayCome}
use Rattle.sn_view.specs.Epochs.{Epochs}
use Rattle.sn_view.specs.Next.{form_of, Given, IsEnabled, Next, Routing, child_of, has_key, is_fork, local_of, routing_of, start_view}
use Rattle.sn_view.specs.Placed.{AtRest}
use Rattle.sn_view.specs.Routed.{BoxesAreFed, IsRoutedNode, has_route, is_going}
use Rattle.sn_view.specs.Seen.{Can, running, tree_of}
use Rattle.sn_view.specs.View.{Child, Freely, Happening, It, Node, Plain, ToChild, ToNode, View}
use Rattle.sn_view.proofs.Apart.{distinct-doors, entry-there, not-at-itself, not-to-its-child, not-to-itself, own-first, target-beside, target-child, target-node}
use Rattle.sn_view.proofs.Beginning.{can-start, start-can}
use Rattle.sn_view.proofs.Chains.{Chained, chained}
use Rattle.sn_view.proofs.Children.{keys_of, keys-of-doors}
use Rattle.sn_net.specs.Coding.{items_once}
use Rattle.sn_view.proofs.Coding.{distinct_once, number_once, place_once, run_once, some_once}
use Rattle.sn_view.proofs.Counted.{calls-counted, calls-once, marks-counted}
use Rattle.sn_view.proofs.Events.{stands-at}
use Rattle.sn_view.proofs.Feeding.{boxes-fed}
use Rattle.sn_view.proofs.Placing.{choices-whole}
use Rattle.sn_view.proofs.Resting.{nothing-more}
use Rattle.sn_view.proofs.Routed.{TakesRecord, all_routed, records_fit}
use Rattle.sn_view.proofs.Whole.{could-come}

-- THE EVENTS
pub came_start : (run : Run) → ∥ Comes run (start_view run) ∥₁
came_start run = ∣ Started ∣₁

pub came_next : (run : Run) (g : View) (e : Happening) → ∥ Comes run g ∥₁ → IsEnabled g e → ∥ Comes run (Next g e) ∥₁
came_next run g e came may = ∥∥₁_map came (λ comes. Then g e comes may)

-- the child that is first is found first
first-own : (cs : List Child) → HasOwnFirst cs → child_of cs key.Own ≡ Some 0
first-own [] (child, there, own) = cc
first-own (c ∷ cs) (child, there, own) =
    let same : c ≡ child = cc in
    let is_own : key_eq key.Own c.key ≡ true = ap (key_eq key.Own) (ap (λ (x : Child). x.key) same ∙ own) in
    ap (λ (b : Bool). cond b (Some 0) (position_from (has_key key.Own) 1 cs)) is_own

takes_once : (boxes : List BoxProgram) (number : ℕ) (r : Entries) → IsProp (TakesRecord boxes number r)
takes_once boxes number r = ×_prop le_prop (Π_prop (λ program. Π_prop (λ is. hlevel (Bool-set))))

module _ (run : Run) (g : View) (came : ∥ Comes run g ∥₁) where
  -- NUMBERS
  pub came_calls : g.calls ≤ g.applied
  came_calls = ∥∥₁_elim came le_prop (calls-counted run g)

  pub came_marks : (i : ℕ) (n : Node) (e : Epochs) → slice_get g.nodes i ≡ Some n → n.state ≡ Freely e → e.input ≤ g.applied
  came_marks i n e there st = ∥∥₁_elim came le_prop (λ comes. marks-counted run g comes i n e there st)

  -- CALLS
  pub came_below : (i p call : ℕ) (given : Entries) → FliesAt g i p call given → call < g.calls
  came_below i p call given flies = ∥∥₁_elim came le_prop (λ comes. (calls-once run g comes).below i p call given flies)

  pub came_once : (i p j q call : ℕ) (given other : Entries) → FliesAt g i p call given → FliesAt g j q call other → (i ≡ j) × (p ≡ q)
  came_once i p j q call given other here there =
      ∥∥₁_elim came (×_prop (number_once i j) (number_once p q)) (λ comes. (calls-once run g comes).once i p j q call given other here there)

  module _ (fits : FitsBoxes (boxes_of run) (net_of run)) where
    -- the graph stands as the tree has it
    pub by_chained : {P : Type 0} → IsProp P → (Chained run g → P) → P
    by_chained once by = ∥∥₁_elim fits once (λ formed. ∥∥₁_elim came once (λ comes. by (chained run g formed comes)))

    -- it is of its run
    pub came_run : g.run ≡ run
    came_run = by_chained (run_once g.run run) (λ h. h.same)

    module _ (i : ℕ) (n : Node) (there : slice_get g.nodes i ≡ Some n) where
      -- CHILDREN
      pub came_own_first : IsTrue (is_fork n.state) → child_of n.children key.Own ≡ Some 0
      came_own_first fork = by_chained (place_once _ _) (λ h. first-own n.children (own-first g h.placed i n there fork))

      pub came_keys : AreDistinct (map (λ (c : Child). c.key) n.children)
      came_keys = by_chained (distinct_once (keys_of n.children)) (λ h. subst AreDistinct (keys-of-doors n.children) (stands-at g h.placed i n there).keys)

      pub came_entry : (c : ℕ) (child : Child) → slice_get n.children (suc c) ≡ Some child → child.entry < length g.nodes
      came_entry c child e = by_chained le_prop (λ h. entry-there g h.placed i n there c child e)

      pub came_apart_doors : (c : ℕ) (child : Child) → slice_get n.children (suc c) ≡ Some child → (child.entry ≡ i) → ⊥
      came_apart_doors c child e same = by_chained ⊥_prop (λ h. not-at-itself g h.placed i n there c child e same)

      pub came_distinct : (c d : ℕ) (left right : Child) → slice_get n.children (suc c) ≡ Some left → slice_get n.children (suc d) ≡ Some right → left.entry ≡ right.entry → c ≡ d
      came_distinct c d left right e u same = by_chained (number_once c d) (λ h. distinct-doors g h.placed i n there c d left right e u same)

      -- a choice has a child for each key by which it sends an item
      pub came_whole : (x : ModelItem) (place : ℕ) (merge : Merge) (branches : List Net) (faces : List (List Labels)) → form_of g n ≡ Some (Net-F.Choice place merge branches faces)
          → is_among ((router place (of_record (choice_key faces))).key x) (map (λ (c : Child). c.key) n.children) ≡ true
      came_whole x place merge branches faces form = ∥∥₁_elim fits (Bool-set _ true) (λ formed. by_chained (Bool-set _ true) (λ h.
          choices-whole g h.placed (subst (λ (r : Run). IsWellFormed (boxes_of r) (net_of r)) (sym h.same) formed) i n x place merge branches faces there form))

      -- TARGETS
      pub came_apart_sends : (c : ℕ) → ((n.goes ≡ ToNode i) → ⊥) × ((n.goes ≡ ToChild i c) → ⊥)
      came_apart_sends c = (λ e. by_chained ⊥_prop (λ h. not-to-itself g h.placed i n there e), λ e. by_chained ⊥_prop (λ h. not-to-its-child g h.placed i n there c e))

      pub came_to_node : (j : ℕ) → n.goes ≡ ToNode j → j < length g.nodes
      came_to_node j e = by_chained le_prop (λ h. target-node g h.placed i n there j e)

      pub came_to_child : (j c : ℕ) → n.goes ≡ ToChild j c → ∥ HasChild g j c ∥₁
      came_to_child j c e = by_chained ∥∥₁_prop (λ h. ∣ target-child g h.placed i n there j c e ∣₁)

      -- the same as two orders
      pub came_to_child_node : (j c : ℕ) → n.goes ≡ ToChild j c → j < length g.nodes
      came_to_child_node j c e = by_chained le_prop (λ h. let t : HasChild g j c = target-child g h.placed i n there j c e in slice_get_within g.nodes j t.node t.there)

      pub came_to_child_within : (j c : ℕ) (m : Node) → n.goes ≡ ToChild j c → slice_get g.nodes j ≡ Some m → c < length m.children
      came_to_child_within j c m e at = by_chained le_prop (λ h.
          let t : HasChild g j c = target-child g h.placed i n there j c e in
          let same : t.node ≡ m = (let u : Some t.node ≡ Some m = sym t.there ∙ at in cc) in
          subst (λ (x : Node). c < length x.children) same (slice_get_within t.node.children c t.child t.is_child))

      pub came_not_aside : (j : ℕ) → (n.goes ≡ ToChild j 0) → ⊥
      came_not_aside j e = by_chained ⊥_prop (λ h. target-beside g h.placed i n there j e)

    -- WHERE THE ITEMS ARE TYPED
    module _ (typed : AreTyped (boxes_of run) (net_of run) (items_of run)) (i : ℕ) (n : Node) (there : slice_get g.nodes i ≡ Some n) where
      by_routed : {P : Type 0} → IsProp P → (IsRoutedNode g n → P) → P
      by_routed once by = ∥∥₁_elim fits once (λ formed. ∥∥₁_elim typed once (λ all. ∥∥₁_elim came once (λ comes. by ((all_routed run formed all g comes).nodes i n there))))

      -- what a component passes on next is not stuck
      pub came_routed_local : IfSome (local_of g n) (λ given. IsTrue (list_all is_going given.entries))
      came_routed_local = by_routed (some_once (λ (given : Given). list_all is_going given.entries) (local_of g n)) (λ r. r.passes)

      -- and a dispatcher's first entry has a route
      pub came_routed : IfSome (routing_of g n) (λ routing. IsTrue (has_route routing.router routing.entry))
      came_routed = by_routed (some_once (λ (routing : Routing). has_route routing.router routing.entry) (routing_of g n)) (λ r. r.routes)

      -- and a record that waits at a box matches the box's input
      pub came_fits_box : (p place number : ℕ) (r : Entries) → form_of g n ≡ Some (Net-F.Box place number) → slice_get n.waiting p ≡ Some (Plain (It (Rec r)))
          → (number < length (boxes_of run)) × ForSome (slice_get (boxes_of run) number) (λ program. Matches r (variant_of program.input))
      came_fits_box p place number r is_box waits =
          let once = takes_once (boxes_of run) number r in
          ∥∥₁_elim fits once (λ formed. ∥∥₁_elim typed once (λ all. ∥∥₁_elim came once (λ comes. records_fit run formed all g comes i n there p place number r is_box waits)))

    -- a box answers no record that waits at it with what is stuck
    pub came_fed : AreTyped (boxes_of run) (net_of run) (items_of run) → BoxesAreFed g
    came_fed typed i p place number n given at is_box waits =
        ∥∥₁_elim fits (Bool-set _ _) (λ formed. ∥∥₁_elim typed (Bool-set _ _) (λ all. ∥∥₁_elim came (Bool-set _ _) (λ comes. boxes-fed run formed all g comes i p place number n given at is_box waits)))

-- THE STREAMS
pub start_may : (run : Run) (ys : List ModelItem) → MayCome (start_view run) ys ↔ ∥ MayGive run ys ∥₁
start_may run ys = (λ may. ∥∥₁_map may (can-start run ys), λ may. ∥∥₁_map may (start-can run ys))

pub may_begins : (g : View) (ys : List ModelItem) → MayCome g ys → ∥ IsPrefixOf g.out ys ∥₁
may_begins g ys may = ∥∥₁_map may (out_is_prefix (part (tree_of g)) (part-Core (tree_of g)) (running g) ys)

module _ (run : Run) (g : View) (came : ∥ Comes run g ∥₁) (fits : FitsBoxes (boxes_of run) (net_of run)) where
  pub may_before : (e : Happening) (ys : List ModelItem) → IsEnabled g e → MayCome (Next g e) ys → MayCome g ys
  may_before e ys enabled may = by_chained run g came fits ∥∥₁_prop (λ h. ∥∥₁_map may (could-come g e h.placed h.sane enabled ys))

  pub may_some : ∥ ((ys : List ModelItem) × Can g ys) ∥₁
  may_some = by_chained run g came fits ∥∥₁_prop (λ h. ∣ some_stream (part (tree_of g)) (part-Lives (tree_of g)) (running g) h.sane ∣₁)

  pub may_rest : (ys : List ModelItem) → AtRest g → MayCome g ys → ys ≡ g.out
  may_rest ys rest may = ∥∥₁_elim may (items_once ys g.out) (λ can. by_chained run g came fits (items_once ys g.out) (λ h. nothing-more g h.placed rest h.orderly h.sane ys can))

  pub may_allowed : (ys : List ModelItem) → MayCome g ys → ∥ MayGive run ys ∥₁
  may_allowed ys may = by_chained run g came fits ∥∥₁_prop (λ h. ∥∥₁_map may (h.allowed ys))
