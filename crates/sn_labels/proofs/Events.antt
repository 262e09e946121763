-- No event brings a label that the run does not have.
use Rattle.std.proofs.Common.{◌≡◌, ℕ, zero, suc, ◌+◌, ◌==◌, Bool, true, false, cond, IfSome, List, [], ◌∷◌, ◌++◌, map, length, Option, Some, None, refl, sym, subst}
use Rattle.std.specs.Prelude.{slice_get, unwrap_or}
use Rattle.std.specs.List.{AllByRecursion as Each, list_any}
use Rattle.std.specs.Option.{option_map}
use Rattle.sn_record.specs.declared.item.Item.{Item}
use Rattle.sn_record.specs.declared.item.Item.TheVariants as item
use Rattle.sn_record.specs.declared.label.Label.{Label}
use Rattle.sn_record.specs.LabelSet.{Labels}
use Rattle.sn_streams.specs.Forks.{Router}
use Rattle.sn_streams.specs.Keys.{Key as StreamKey}
use Rattle.sn_streams.specs.Keys as stream
use Rattle.sn_net.specs.declared.net.Merge.{Merge as MergeKind}
use Rattle.sn_net.specs.declared.net.Merge.TheVariants as kind
use Rattle.sn_net.specs.declared.net.Net.{Net}
use Rattle.sn_net.specs.declared.net.Net.TheOpen.{Net-F}
use Rattle.sn_net.specs.declared.net.Net.TheViews.{out-Net}
use Rattle.sn_net.specs.declared.routing.Key.{Key}
use Rattle.sn_net.specs.declared.routing.Key.TheVariants as key
use Rattle.sn_net.specs.Cell.{CellState, cell_emits}
use Rattle.sn_net.specs.Dispatchers.{passed_by}
use Rattle.sn_net.specs.Item.{ModelItem, Rec, Fault, Stuck, modelled}
use Rattle.sn_model.specs.declared.run.Run.{Run}
use Rattle.sn_model.specs.Components.{box_item, filter_item}
use Rattle.sn_model.specs.Run.{boxes_of, depth_of, fuel_of, input_of, items_of, net_of}
use Rattle.sn_view.specs.Chains.{Comes, Started, Then}
use Rattle.sn_view.specs.Epochs.{Epochs, closed, is_passed, marked, moved_on}
use Rattle.sn_view.specs.Next.{after, answering_entry, both, box_gives, cell_after, decides, decision_of, det_merges, det_routes, emitted, first_called, form_of, free_merges, free_routes, gets_answer, Given, gives, group_gives, group_of, has_no_call, if_node, in_call, items, keeps, kept_of, key_of, local_of, local_step, local_then, mark_passes, merges_by, needs, new_nodes, Next, next_input, passed, plain, plain_entry, routed, router_of, routes_by, Routing, routing_of, send, start_view, takes_kept, to_all, to_entry, took, turn_of, unfolded, adds_child, with_answer, with_epoch}
use Rattle.sn_view.specs.Parts.{dispatcher, own_child, part_at}
use Rattle.sn_view.specs.View.{Entry, It, Mark, End, Waiting, Plain, InFlight, Finished, Turn, To, Own, State, Alone, Cell, InTurn, Freely, Child, Target, Out, ToNode, ToChild, Node, View, Happening, Take, Start, Finish, Local, Route, Unfold, Merge, Emit, at_node, changed_at, child_gives, first_of, keeps_more, rest_of, waits_more}
use Rattle.sn_model.specs.declared.step.Step.{Step}
use Rattle.sn_view.proofs.Orders.{Each as EachNode, each-append, each-changed, each-mapped}
use Rattle.sn_view.proofs.Planned.{HoldsAnew, KeepsNone, all-made, all-planned}
use Rattle.sn_labels.specs.Labels.{is_label_of, is_of_box, is_of_filter, is_of_item, is_of_net}
use Rattle.sn_labels.specs.Flowing.{CellHasOnly, ChildHasOnly, EntryHasOnly, HasRunLabels, ItemHasOnly, NodeHasOnly, StateHasOnly, TurnHasOnly, WaitingHasOnly}
use Rattle.sn_labels.proofs.Boxes.{box_only}
use Rattle.sn_labels.proofs.Cells.{cell_keeps_only, cell_only, new_cell_only}
use Rattle.sn_labels.proofs.Filters.{filter_only}
use Rattle.sn_labels.proofs.Parts.{of_form}
use Rattle.sn_labels.proofs.Records.{Covers, each_both, each_push, or_first, or_second}

-- LISTS
module _ {A : Type 0} (P : A → Type 0) where
  rest_each : (xs : List A) → Each P xs → Each P (rest_of xs)
  rest_each [] each = tt
  rest_each (x ∷ xs) each = each.1

  first_each : (xs : List A) → Each P xs → IfSome (first_of xs) P
  first_each [] each = tt
  first_each (x ∷ xs) each = each.0

  changed_each : (i : ℕ) (f : A → A) (xs : List A) → ((x : A) → P x → P (f x)) → Each P xs → Each P (changed_at i f xs)
  changed_each i f [] stays each = tt
  changed_each zero f (x ∷ xs) stays each = (stays x each.0, each.1)
  changed_each (suc i) f (x ∷ xs) stays each = (each.0, changed_each i f xs stays each.1)

  mapped_each : (f : A → A) (xs : List A) → ((x : A) → P x → P (f x)) → Each P xs → Each P (map f xs)
  mapped_each f [] stays each = tt
  mapped_each f (x ∷ xs) stays each = (stays x each.0, mapped_each f xs stays each.1)

  found_each : (xs : List A) (i : ℕ) → Each P xs → IfSome (slice_get xs i) P
  found_each [] i each = tt
  found_each (x ∷ xs) zero each = each.0
  found_each (x ∷ xs) (suc i) each = found_each xs i each.1

module _ (run : Run) where
  abbrev known : Label → Bool
  known = is_label_of run

  abbrev OnlyItem : ModelItem → Type 0
  OnlyItem = ItemHasOnly known

  abbrev OnlyEntry : Entry ModelItem → Type 0
  OnlyEntry = EntryHasOnly known

  abbrev OnlyNode : Node → Type 0
  OnlyNode = NodeHasOnly known

  -- what is known of a graph of the run
  pub record Knows (g : View) : Type 0 where
    pub same : g.run ≡ run
    pub nodes : EachNode OnlyNode g.nodes
    pub ready : Each OnlyEntry g.ready
    pub out : Each OnlyItem g.out

  -- WHERE LABELS COME FROM
  net_known : Covers known (is_of_net (net_of run))
  net_known l there = or_first (is_of_net (net_of run) l) _ there

  boxes_known : Covers known (λ l. list_any (λ program. is_of_box program l) (boxes_of run))
  boxes_known l there = or_second (is_of_net (net_of run) l) _ (or_first (list_any (λ program. is_of_box program l) (boxes_of run)) _ there)

  items_known : Covers known (λ l. list_any (λ item. is_of_item item l) (items_of run))
  items_known l there = or_second (is_of_net (net_of run) l) _ (or_second (list_any (λ program. is_of_box program l) (boxes_of run)) _ there)

  -- ENTRIES
  item_entries : (xs : List ModelItem) → Each OnlyItem xs → Each OnlyEntry (items xs)
  item_entries [] each = tt
  item_entries (x ∷ xs) each = (each.0, item_entries xs each.1)

  plain_each : (o : List (Entry ModelItem)) → Each OnlyEntry o → Each (WaitingHasOnly known) (plain o)
  plain_each [] each = tt
  plain_each (e ∷ o) each = (each.0, plain_each o each.1)

  called_each : (call : ℕ) (ws : List Waiting) → Each (WaitingHasOnly known) ws → Each (WaitingHasOnly known) (first_called call ws)
  called_each call [] each = tt
  called_each call (w ∷ ws) each = at (has_no_call w) (called_one w each.0) (called_each call ws each.1)
    where
      called_one : (w : Waiting) → WaitingHasOnly known w → WaitingHasOnly known (in_call call w)
      called_one (Plain (It (Rec r))) only = only
      called_one (Plain (It (Fault fault))) only = only
      called_one (Plain (It (Stuck place))) only = only
      called_one (Plain Mark) only = only
      called_one (Plain End) only = only
      called_one (InFlight other given) only = only
      called_one (Finished given) only = only

      at : (b : Bool) → WaitingHasOnly known (in_call call w) → Each (WaitingHasOnly known) (first_called call ws) → Each (WaitingHasOnly known) (cond b (in_call call w ∷ ws) (w ∷ first_called call ws))
      at true one rest = (one, each.1)
      at false one rest = (each.0, rest)

  answer_one : (call : ℕ) (w : Waiting) → WaitingHasOnly known w → WaitingHasOnly known (with_answer call w)
  answer_one call (Plain e) only = only
  answer_one call (InFlight other given) only = at (call == other)
    where
      at : (b : Bool) → WaitingHasOnly known (cond b (Finished given) (InFlight other given))
      at true = only
      at false = only
  answer_one call (Finished given) only = only

  -- NODES
  waits_only : (o : List (Entry ModelItem)) → Each OnlyEntry o → (n : Node) → OnlyNode n → OnlyNode (waits_more (plain o) n)
  waits_only o each n only = record { waiting = each_both (WaitingHasOnly known) n.waiting (plain o) only.waiting (plain_each o each); state = only.state; children = only.children }

  child_only : (c : ℕ) (o : List (Entry ModelItem)) → Each OnlyEntry o → (n : Node) → OnlyNode n → OnlyNode (child_gives c o n)
  child_only c o each n only = record {
    waiting = only.waiting;
    state = only.state;
    children = changed_each (ChildHasOnly known) c (keeps_more o) n.children (λ child h. each_both OnlyEntry child.kept o h each) only.children;
  }

  takes_only : (c : ℕ) (n : Node) → OnlyNode n → OnlyNode (takes_kept c n)
  takes_only c n only = record {
    waiting = only.waiting;
    state = only.state;
    children = changed_each (ChildHasOnly known) c (λ child. record child { kept = rest_of child.kept }) n.children (λ child h. rest_each OnlyEntry child.kept h) only.children;
  }

  passed_only : (n : Node) → OnlyNode n → OnlyNode (passed n)
  passed_only n only = record { waiting = rest_each (WaitingHasOnly known) n.waiting only.waiting; state = only.state; children = only.children }

  keeps_only : (state : State) → StateHasOnly known state → (n : Node) → OnlyNode n → OnlyNode (keeps state n)
  keeps_only state held n only = record { waiting = only.waiting; state = held; children = only.children }

  kept_each : (cs : List Child) (c : ℕ) → Each (ChildHasOnly known) cs → Each OnlyEntry (kept_of cs c)
  kept_each cs c each = at (slice_get cs c) (found_each (ChildHasOnly known) cs c each)
    where
      at : (o : Option Child) → IfSome o (ChildHasOnly known) → Each OnlyEntry (unwrap_or (option_map (λ child. child.kept) o) [])
      at None h = tt
      at (Some child) h = h

  adds_only : (k : StreamKey) (entry : ℕ) (n : Node) → OnlyNode n → OnlyNode (adds_child k entry n)
  adds_only k entry n only = record {
    waiting = only.waiting;
    state = at n.state only.state;
    children = each_push (ChildHasOnly known) n.children (record { key = k; entry = entry; kept = [] }) only.children tt;
  }
    where
      at : (state : State) → StateHasOnly known state → StateHasOnly known (with_epoch state)
      at Alone held = held
      at (Cell patterns cell) held = held
      at (InTurn ds) held = held
      at (Freely epochs) held = held

  -- new nodes
  none_kept : (cs : List Child) → EachNode KeepsNone cs → Each (ChildHasOnly known) cs
  none_kept [] none = tt
  none_kept (child ∷ cs) none = (
    subst (Each OnlyEntry) (sym (none 0 child refl)) tt,
    none_kept cs (λ i x at. none (suc i) x at),
  )

  fork_only : (m : MergeKind) (left node : ℕ) (cs : List Child) (steps : List Step) (path : List ℕ) (goes : Target) → EachNode KeepsNone cs → OnlyNode (dispatcher m left (own_child node ∷ cs) steps path goes)
  fork_only kind.Free left node cs steps path goes none = record { waiting = tt; state = tt; children = (tt, none_kept cs none) }
  fork_only kind.Det left node cs steps path goes none = record { waiting = tt; state = tt; children = (tt, none_kept cs none) }

  only_anew : HoldsAnew OnlyNode
  only_anew = record {
    alone = λ steps path goes. record { waiting = tt; state = tt; children = tt };
    cell = λ patterns steps path goes. record { waiting = tt; state = new_cell_only known patterns; children = tt };
    fork = fork_only;
  }

  -- ROUTES
  passed_by_only : (place : ℕ) (k : Key) (x : ModelItem) → OnlyItem x → OnlyItem (passed_by place k x)
  passed_by_only place key.Bypass x only = only
  passed_by_only place (key.Branch i) x only = only
  passed_by_only place key.Inside x only = only
  passed_by_only place (key.Value v) x only = only
  passed_by_only place (key.Broken fault) x only = tt
  passed_by_only place key.Stuck x only = tt

  -- what passes the children by
  abbrev PassesOnly : Router ModelItem → Type 0
  PassesOnly r = (x : ModelItem) → OnlyItem x → OnlyItem (r.own x)

  router_only : (form : Option (Net-F Net)) (left : ℕ) → IfSome (router_of form left) PassesOnly
  router_only None left = tt
  router_only (Some (Net-F.Box place number)) left = tt
  router_only (Some (Net-F.Filter filter)) left = tt
  router_only (Some (Net-F.Sync place patterns)) left = tt
  router_only (Some (Net-F.Serial first second)) left = tt
  router_only (Some (Net-F.Choice place merge branches faces)) left = λ x only. passed_by_only place _ x only
  router_only (Some (Net-F.Star place merge body exit guard)) left = λ x only. passed_by_only place _ x only
  router_only (Some (Net-F.Split place merge body id)) left = λ x only. passed_by_only place _ x only

  record RoutesOnly (routing : Routing) : Type 0 where
    own : PassesOnly routing.router
    entry : OnlyEntry routing.entry

  both_only : (r : Option (Router ModelItem)) (w : Option Waiting) → IfSome r PassesOnly → IfSome w (WaitingHasOnly known) → IfSome (both r (plain_entry w)) RoutesOnly
  both_only None w own only = tt
  both_only (Some r) None own only = tt
  both_only (Some r) (Some (Plain e)) own only = record { own = own; entry = only }
  both_only (Some r) (Some (InFlight call given)) own only = tt
  both_only (Some r) (Some (Finished given)) own only = tt

  routing_only : (g : View) (n : Node) → OnlyNode n → IfSome (routing_of g n) RoutesOnly
  routing_only g n only = both_only (router_of (form_of g n) n.left) (first_of n.waiting) (router_only (form_of g n) n.left) (first_each (WaitingHasOnly known) n.waiting only.waiting)

  turn_only : (k : StreamKey) (y : ModelItem) → OnlyItem y → TurnHasOnly known (It (turn_of k y))
  turn_only stream.Own y only = only
  turn_only (stream.Branch i) y only = tt
  turn_only stream.Inside y only = tt
  turn_only (stream.Value v) y only = tt

  decision_only : (r : Router ModelItem) (e : Entry ModelItem) → PassesOnly r → OnlyEntry e → TurnHasOnly known (decision_of r e)
  decision_only r (It x) own only = turn_only (r.key x) (r.own x) (own x only)
  decision_only r Mark own only = tt
  decision_only r End own only = tt

  group_only : (e : Entry ModelItem) → OnlyEntry e → Each OnlyEntry (group_of e)
  group_only (It x) only = (only, (tt, tt))
  group_only Mark only = tt
  group_only End only = tt

  -- COMPONENTS
  record GivesOnly (given : Given) : Type 0 where
    state : StateHasOnly known given.state
    entries : Each OnlyEntry given.entries

  answering_only : (answer : ModelItem → List ModelItem) → ((x : ModelItem) → OnlyItem x → Each OnlyItem (answer x)) → (e : Entry ModelItem) → OnlyEntry e → Each OnlyEntry (answering_entry answer e)
  answering_only answer gives (It x) only = item_entries (answer x) (gives x only)
  answering_only answer gives Mark only = (tt, tt)
  answering_only answer gives End only = (tt, tt)

  box_given_only : (answer : ModelItem → List ModelItem) → ((x : ModelItem) → OnlyItem x → Each OnlyItem (answer x)) → (w : Waiting) → WaitingHasOnly known w
      → IfSome (option_map (λ (o : List (Entry ModelItem)). record { state = Alone; entries = o }) (box_gives answer w)) GivesOnly
  box_given_only answer gives (Finished given) only = record { state = tt; entries = item_entries (answer (Rec given)) (gives (Rec given) only) }
  box_given_only answer gives (Plain (It (Rec r))) only = tt
  box_given_only answer gives (Plain (It (Fault fault))) only = record { state = tt; entries = (tt, tt) }
  box_given_only answer gives (Plain (It (Stuck place))) only = record { state = tt; entries = (tt, tt) }
  box_given_only answer gives (Plain Mark) only = record { state = tt; entries = (tt, tt) }
  box_given_only answer gives (Plain End) only = record { state = tt; entries = (tt, tt) }
  box_given_only answer gives (InFlight call given) only = tt

  cell_after_only : (patterns : List Labels) (cell : CellState) (e : Entry ModelItem) → CellHasOnly known cell → OnlyEntry e → CellHasOnly known (cell_after patterns cell e)
  cell_after_only patterns cell (It x) held only = cell_keeps_only known patterns cell x held only
  cell_after_only patterns cell Mark held only = held
  cell_after_only patterns cell End held only = held

  -- what a filter sets is of the run
  abbrev FilterIsOf : Option (Net-F Net) → Type 0
  FilterIsOf None = Unit {0}
  FilterIsOf (Some (Net-F.Box place number)) = Unit {0}
  FilterIsOf (Some (Net-F.Filter filter)) = Covers known (is_of_filter filter)
  FilterIsOf (Some (Net-F.Sync place patterns)) = Unit {0}
  FilterIsOf (Some (Net-F.Serial first second)) = Unit {0}
  FilterIsOf (Some (Net-F.Choice place merge branches faces)) = Unit {0}
  FilterIsOf (Some (Net-F.Star place merge body exit guard)) = Unit {0}
  FilterIsOf (Some (Net-F.Split place merge body id)) = Unit {0}

  filter_of_part : (path : List ℕ) (form : Option (Net-F Net)) → option_map out-Net (part_at (net_of run) path) ≡ form → FilterIsOf form
  filter_of_part path None is = tt
  filter_of_part path (Some (Net-F.Box place number)) is = tt
  filter_of_part path (Some (Net-F.Filter filter)) is = λ l there. net_known l (of_form l (net_of run) path (Net-F.Filter filter) is there)
  filter_of_part path (Some (Net-F.Sync place patterns)) is = tt
  filter_of_part path (Some (Net-F.Serial first second)) is = tt
  filter_of_part path (Some (Net-F.Choice place merge branches faces)) is = tt
  filter_of_part path (Some (Net-F.Star place merge body exit guard)) is = tt
  filter_of_part path (Some (Net-F.Split place merge body id)) is = tt

  local_only : (form : Option (Net-F Net)) (state : State) (w : Option Waiting) → FilterIsOf form → StateHasOnly known state → IfSome w (WaitingHasOnly known) → IfSome (local_step run form state w) GivesOnly
  local_only (Some (Net-F.Box place number)) Alone (Some w) sets held only =
      box_given_only (box_item (boxes_of run) (fuel_of run) place number) (λ x from. box_only known (boxes_of run) (fuel_of run) place number x boxes_known from) w only
  local_only (Some (Net-F.Filter filter)) Alone (Some (Plain e)) sets held only =
      record { state = tt; entries = answering_only (filter_item filter) (λ x from. filter_only known filter x sets from) e only }
  local_only (Some (Net-F.Sync place own)) (Cell patterns cell) (Some (Plain e)) sets held only = record {
    state = cell_after_only patterns cell e held only;
    entries = answering_only (cell_emits place patterns cell) (λ x from. cell_only known place patterns cell x held from) e only;
  }
  local_only form state w sets held only = tt

  -- GRAPHS
  changed_knows : (i : ℕ) (f : Node → Node) (g : View) → ((n : Node) → OnlyNode n → OnlyNode (f n)) → Knows g → Knows (at_node i f g)
  changed_knows i f g stays h = record { same = h.same; nodes = each-changed OnlyNode f g.nodes i h.nodes stays; ready = h.ready; out = h.out }

  sent_knows : (goes : Target) (o : List (Entry ModelItem)) (g : View) → Each OnlyEntry o → Knows g → Knows (send goes o g)
  sent_knows Out o g only h = record { same = h.same; nodes = h.nodes; ready = each_both OnlyEntry g.ready o h.ready only; out = h.out }
  sent_knows (ToNode j) o g only h = changed_knows j (waits_more (plain o)) g (waits_only o only) h
  sent_knows (ToChild j c) o g only h = changed_knows j (child_gives c o) g (child_only c o only) h

  all_know : (cs : List Child) (o : List (Entry ModelItem)) (g : View) → Each OnlyEntry o → Knows g → Knows (to_all cs o g)
  all_know [] o g only h = h
  all_know (c ∷ cs) o g only h = all_know cs o (send (ToNode c.entry) o g) only (sent_knows (ToNode c.entry) o g only h)

  entry_knows : (c : ℕ) (o : List (Entry ModelItem)) (child : Option Child) (g : View) → Each OnlyEntry o → Knows g → Knows (to_entry c o child g)
  entry_knows zero o child g only h = h
  entry_knows (suc c) o (Some child) g only h = sent_knows (ToNode child.entry) o g only h
  entry_knows (suc c) o None g only h = h

  -- EVENTS AT A NODE
  module _ (i : ℕ) (n : Node) (g : View) (h : Knows g) (there : slice_get g.nodes i ≡ Some n) where
    here : OnlyNode n
    here = h.nodes i n there

    given_knows : (f : Node → Node) → ((m : Node) → OnlyNode m → OnlyNode (f m)) → (o : List (Entry ModelItem)) → Each OnlyEntry o → Knows (gives i f n.goes o g)
    given_knows f stays o only = sent_knows n.goes o (at_node i f g) only (changed_knows i f g stays h)

    local_then_knows : (given : Option Given) → IfSome given GivesOnly → Knows (local_then i n g given)
    local_then_knows None only = h
    local_then_knows (Some given) only = given_knows (λ m. keeps given.state (passed m)) (λ m k. keeps_only given.state only.state (passed m) (passed_only m k)) given.entries only.entries

    local_knows : Knows (local_then i n g (local_of g n))
    local_knows =
        local_then_knows (local_of g n)
        (subst (λ (r : Run). IfSome (local_step r (option_map out-Net (part_at (net_of r) n.path)) n.state (first_of n.waiting)) GivesOnly) (sym h.same)
        (local_only (option_map out-Net (part_at (net_of run) n.path)) n.state (first_of n.waiting) (filter_of_part n.path _ refl) here.state (first_each (WaitingHasOnly known) n.waiting here.waiting)))

    -- a deterministic dispatcher
    module _ (ds : List (Entry Turn)) (decided : Each (TurnHasOnly known) ds) where
      det_routes_know : (routing : Routing) (c : ℕ) → RoutesOnly routing → Knows (det_routes i n ds routing c g)
      det_routes_know routing c only =
          let d : Entry Turn = decision_of routing.router routing.entry in
          entry_knows c (group_of routing.entry) (slice_get n.children c) (at_node i (decides ds d) g) (group_only routing.entry only.entry)
          (changed_knows i (decides ds d) g
          (λ m k. keeps_only (InTurn (ds ++ d ∷ [])) (each_push (TurnHasOnly known) ds d decided (decision_only routing.router routing.entry only.own only.entry)) (passed m) (passed_only m k)) h)

      served : (m : Node) → OnlyNode m → OnlyNode (keeps (InTurn (rest_of ds)) m)
      served m k = keeps_only (InTurn (rest_of ds)) (rest_each (TurnHasOnly known) ds decided) m k

      group_knows : (c : ℕ) (e : Option (Entry ModelItem)) → IfSome e OnlyEntry → Knows (group_gives i n c ds e g)
      group_knows c (Some (It y)) only = given_knows (takes_kept c) (takes_only c) (It y ∷ []) (only, tt)
      group_knows c (Some Mark) only = changed_knows i (λ m. keeps (InTurn (rest_of ds)) (takes_kept c m)) g (λ m k. served (takes_kept c m) (takes_only c m k)) h
      group_knows c (Some End) only = changed_knows i (takes_kept c) g (takes_only c) h
      group_knows c None only = h

      turn_knows : (c : ℕ) (d : Option (Entry Turn)) → IfSome d (TurnHasOnly known) → Knows (det_merges i n c ds d g)
      turn_knows c (Some (It (Own y))) only = given_knows (keeps (InTurn (rest_of ds))) served (It y ∷ []) (only, tt)
      turn_knows c (Some (It (To k))) only = group_knows c (first_of (kept_of n.children c)) (first_each OnlyEntry (kept_of n.children c) (kept_each n.children c here.children))
      turn_knows c (Some Mark) only = given_knows (keeps (InTurn (rest_of ds))) served (Mark ∷ []) (tt, tt)
      turn_knows c (Some End) only = given_knows (keeps (InTurn (rest_of ds))) served (End ∷ []) (tt, tt)
      turn_knows c None only = h

    -- a free one
    free_routes_know : (epochs : Epochs) (r : Router ModelItem) (e : Entry ModelItem) (c : ℕ) → PassesOnly r → OnlyEntry e → Knows (free_routes i n epochs r e c g)
    free_routes_know epochs r (It x) zero own only =
        changed_knows i (λ m. child_gives 0 (It (r.own x) ∷ []) (passed m)) g (λ m k. child_only 0 (It (r.own x) ∷ []) (own x only, tt) (passed m) (passed_only m k)) h
    free_routes_know epochs r (It x) (suc c) own only = entry_knows (suc c) (It x ∷ []) (slice_get n.children (suc c)) (at_node i passed g) (only, tt) (changed_knows i passed g passed_only h)
    free_routes_know epochs r Mark c own only =
        all_know (rest_of n.children) (Mark ∷ []) (at_node i (λ m. keeps (Freely (closed epochs)) (child_gives 0 (Mark ∷ []) (passed m))) g) (tt, tt)
        (changed_knows i (λ m. keeps (Freely (closed epochs)) (child_gives 0 (Mark ∷ []) (passed m))) g
        (λ m k. keeps_only (Freely (closed epochs)) tt (child_gives 0 (Mark ∷ []) (passed m)) (child_only 0 (Mark ∷ []) (tt, tt) (passed m) (passed_only m k))) h)
    free_routes_know epochs r End c own only =
        changed_knows i (λ m. child_gives 0 (End ∷ []) (passed m)) g (λ m k. child_only 0 (End ∷ []) (tt, tt) (passed m) (passed_only m k)) h

    mark_knows : (c : ℕ) (e : Epochs) → Knows (mark_passes i n c e g)
    mark_knows c e = at (is_passed e)
      where
        at : (b : Bool)
            → Knows (cond b (gives i (λ m. keeps (Freely (moved_on e)) (takes_kept c m)) n.goes (Mark ∷ []) g) (at_node i (λ m. keeps (Freely e) (takes_kept c m)) g))
        at true = given_knows (λ m. keeps (Freely (moved_on e)) (takes_kept c m)) (λ m k. keeps_only (Freely (moved_on e)) tt (takes_kept c m) (takes_only c m k)) (Mark ∷ []) (tt, tt)
        at false = changed_knows i (λ m. keeps (Freely e) (takes_kept c m)) g (λ m k. keeps_only (Freely e) tt (takes_kept c m) (takes_only c m k)) h

    free_merges_know : (c : ℕ) (epochs : Epochs) (e : Option (Entry ModelItem)) → IfSome e OnlyEntry → Knows (free_merges i n c epochs e g)
    free_merges_know c epochs (Some (It y)) only = given_knows (takes_kept c) (takes_only c) (It y ∷ []) (only, tt)
    free_merges_know c epochs (Some Mark) only = mark_knows c (marked c epochs)
    free_merges_know c epochs (Some End) only = given_knows (takes_kept c) (takes_only c) (End ∷ []) (tt, tt)
    free_merges_know c epochs None only = h

    routes_know : (state : State) → StateHasOnly known state → (routing : Routing) (c : ℕ) → RoutesOnly routing → Knows (routes_by i n state routing c g)
    routes_know Alone held routing c only = h
    routes_know (Cell patterns cell) held routing c only = h
    routes_know (InTurn ds) held routing c only = det_routes_know ds held routing c only
    routes_know (Freely epochs) held routing c only = free_routes_know epochs routing.router routing.entry c only.own only.entry

    routed_knows : (routing : Option Routing) → IfSome routing RoutesOnly → Knows (routed i n routing g)
    routed_knows None only = h
    routed_knows (Some routing) only = at (needs n routing)
      where
        at : (c : Option ℕ) → Knows (unwrap_or (option_map (λ c. routes_by i n n.state routing c g) c) g)
        at None = h
        at (Some c) = routes_know n.state here.state routing c only

    merges_know : (c : ℕ) (state : State) → StateHasOnly known state → Knows (merges_by i n c state g)
    merges_know c Alone held = h
    merges_know c (Cell patterns cell) held = h
    merges_know c (InTurn ds) held = turn_knows ds held c (first_of ds) (first_each (TurnHasOnly known) ds held)
    merges_know c (Freely epochs) held = free_merges_know c epochs (first_of (kept_of n.children c)) (first_each OnlyEntry (kept_of n.children c) (kept_each n.children c here.children))

    unfolded_knows : (routing : Option Routing) → Knows (unfolded i n routing g)
    unfolded_knows None = h
    unfolded_knows (Some routing) =
        let k : StreamKey = key_of routing.router routing.entry in
        record {
          same = h.same;
          nodes = each-append OnlyNode (changed_at i (adds_child k (length g.nodes)) g.nodes) (new_nodes (depth_of g.run) (form_of g n) k i n (length g.nodes))
              (each-changed OnlyNode (adds_child k (length g.nodes)) g.nodes i h.nodes (adds_only k (length g.nodes)))
              (all-made OnlyNode only_anew (depth_of g.run) (form_of g n) k i n (length g.nodes));
          ready = h.ready;
          out = h.out;
        }

  -- ALL EVENTS
  input_each : (xs : List Item) → Covers known (λ l. list_any (λ item. is_of_item item l) xs) → Each OnlyItem (map modelled xs)
  input_each [] covers = tt
  input_each (x ∷ xs) covers = (one x (λ l there. covers l (or_first (is_of_item x l) _ there)), input_each xs (λ l there. covers l (or_second (is_of_item x l) _ there)))
    where
      one : (x : Item) → Covers known (is_of_item x) → OnlyItem (modelled x)
      one (item.Rec r) own = own
      one (item.Fault fault) own = tt

  module _ (g : View) (h : Knows g) where
    took_knows : (x : Option ModelItem) → IfSome x OnlyItem → Knows (took x g)
    took_knows (Some x) only = sent_knows (ToNode 0) (It x ∷ []) (record g { taken = g.taken + 1 }) (only, tt) (record { same = h.same; nodes = h.nodes; ready = h.ready; out = h.out })
    took_knows None only = sent_knows (ToNode 0) (End ∷ []) (record g { ended = true }) (tt, tt) (record { same = h.same; nodes = h.nodes; ready = h.ready; out = h.out })

    next_only : IfSome (next_input g) OnlyItem
    next_only = subst (λ (r : Run). IfSome (slice_get (input_of r) g.taken) OnlyItem) (sym h.same) (found_each OnlyItem (input_of run) g.taken (input_each (items_of run) items_known))

    emitted_knows : (e : Option (Entry ModelItem)) → IfSome e OnlyEntry → Knows (emitted e g)
    emitted_knows (Some (It y)) only = record { same = h.same; nodes = h.nodes; ready = rest_each OnlyEntry g.ready h.ready; out = each_push OnlyItem g.out y h.out only }
    emitted_knows (Some Mark) only = record { same = h.same; nodes = h.nodes; ready = rest_each OnlyEntry g.ready h.ready; out = h.out }
    emitted_knows (Some End) only = record { same = h.same; nodes = h.nodes; ready = rest_each OnlyEntry g.ready h.ready; out = h.out }
    emitted_knows None only = h

    -- an event at a node, if there is one
    at_knows : (i : ℕ) (f : Node → View) → ((n : Node) → slice_get g.nodes i ≡ Some n → Knows (f n)) → Knows (if_node f g (slice_get g.nodes i))
    at_knows i f then = by (slice_get g.nodes i) refl
      where
        by : (o : Option Node) → slice_get g.nodes i ≡ o → Knows (if_node f g o)
        by None is = h
        by (Some n) is = then n is

    after_knows : (e : Happening) → Knows (after g e)
    after_knows Take = took_knows (next_input g) next_only
    after_knows (Start i) = record {
      same = h.same;
      nodes = each-changed OnlyNode (λ n. record n { waiting = first_called g.calls n.waiting }) g.nodes i h.nodes
          (λ n only. record { waiting = called_each g.calls n.waiting only.waiting; state = only.state; children = only.children });
      ready = h.ready;
      out = h.out;
    }
    after_knows (Finish call number place given) = record {
      same = h.same;
      nodes = each-mapped OnlyNode (gets_answer call) g.nodes h.nodes
          (λ n only. record { waiting = mapped_each (WaitingHasOnly known) (with_answer call) n.waiting (answer_one call) only.waiting; state = only.state; children = only.children });
      ready = h.ready;
      out = h.out;
    }
    after_knows (Local i) = at_knows i (λ n. local_then i n g (local_of g n)) (λ n there. local_knows i n g h there)
    after_knows (Route i) = at_knows i (λ n. routed i n (routing_of g n) g) (λ n there. routed_knows i n g h there (routing_of g n) (routing_only g n (h.nodes i n there)))
    after_knows (Unfold i) = at_knows i (λ n. unfolded i n (routing_of g n) g) (λ n there. unfolded_knows i n g h there (routing_of g n))
    after_knows (Merge i c) = at_knows i (λ n. merges_by i n c n.state g) (λ n there. merges_know i n g h there c n.state (h.nodes i n there).state)
    after_knows Emit = emitted_knows (first_of g.ready) (first_each OnlyEntry g.ready h.ready)

    next_knows : (e : Happening) → Knows (Next g e)
    next_knows e = let k : Knows (after g e) = after_knows e in record { same = k.same; nodes = k.nodes; ready = k.ready; out = k.out }

  start_knows : Knows (start_view run)
  start_knows = record { same = refl; nodes = all-planned OnlyNode only_anew (depth_of run) (net_of run) [] [] Out 0; ready = tt; out = tt }

  pub comes_knows : (g : View) → Comes run g → Knows g
  comes_knows g Started = start_knows
  comes_knows g (Then before e comes may) = next_knows before (comes_knows before comes) e

  pub has_run_labels : (g : View) → Comes run g → HasRunLabels run g
  has_run_labels g comes = let k : Knows g = comes_knows g comes in record { nodes = k.nodes; ready = k.ready; out = k.out }
