-- No item lacks a route while a network runs, and the records that wait at a box match its input.
use Rattle.std.proofs.Common.{◌≡◌, ◌<◌, ℕ, zero, suc, Bool, true, false, not, cond, IsTrue, List, [], ◌∷◌, map, length, ◌⊎◌, Option, None, Some, refl, sym, ap, ◌∙◌, subst, inl, inr}
use Rattle.std.specs.Prelude.{IfSome, slice_get}
use Rattle.std.specs.List.{All, AllByRecursion as Each, list_all}
use Rattle.std.specs.Option.{ForSome}
use Rattle.std.proofs.lemmas.Option.{slice_get_within}
use Rattle.sn_record.specs.LabelSet.{Labels}
use Rattle.sn_record.specs.Record.{Entries, Matches, is_match}
use Rattle.sn_record.proofs.Scores.{is_match-Matches}
use Rattle.sn_streams.specs.Forks.{Router}
use Rattle.sn_streams.specs.Keys.{Key as StreamKey, AreDistinct}
use Rattle.sn_streams.specs.Keys as key
use Rattle.sn_streams.specs.Machines.{Machine}
use Rattle.sn_streams.specs.Trees.{Component, Series, passing, with_own}
use Rattle.sn_net.specs.declared.expr.BoxProgram.{BoxProgram}
use Rattle.sn_net.specs.declared.net.Merge.{Merge as MergeKind}
use Rattle.sn_net.specs.declared.net.Net.{Net}
use Rattle.sn_net.specs.declared.net.Net.TheOpen.{Net-F}
use Rattle.sn_net.specs.declared.routing.Key.{Key}
use Rattle.sn_net.specs.declared.routing.Key.TheVariants as routing
use Rattle.sn_net.specs.Cell.{CellState, Passing, cell_emits}
use Rattle.sn_net.specs.Dispatchers.{Network, branch_child, replica_child, dispatched, inside_child, level, merge_of, passed_by, router, stream_key, level_key}
use Rattle.sn_net.specs.BoxEvaluation.{box_answer}
use Rattle.sn_net.specs.Face.{variant_of}
use Rattle.sn_net.specs.Item.{ModelItem, Rec, Fault, Stuck, is_stuck, holds_stuck}
use Rattle.sn_net.specs.Route.{of_record, choice_key, split_key}
use Rattle.sn_net.specs.WellFormed.{IsWellFormed}
use Rattle.sn_model.specs.declared.run.Run.{Run}
use Rattle.sn_model.specs.Components.{box_item, call_record, filter_item, cell}
use Rattle.sn_model.specs.Meaning.{tree}
use Rattle.sn_model.specs.Run.{boxes_of, fuel_of, input_of, net_of, setting_of}
use Rattle.sn_typing.specs.Typed.{IsOf, IsTyped}
use Rattle.sn_sound.specs.Conveyed.{Conveys}
use Rattle.sn_sound.proofs.Carried.{each_more}
use Rattle.sn_sound.proofs.Follows.{Goes, of_goes}
use Rattle.sn_sound.proofs.Items.{FlowsFrom, each_of_all, net_conveys, safely, typed_is_safe}
use Rattle.sn_live.specs.Entries.{Entry as LiveEntry, It as LiveIt}
use Rattle.sn_live.specs.Flat.{at_steps}
use Rattle.sn_live.specs.Known.{EachEntry, KnownThere, RunKnown}
use Rattle.sn_live.specs.Live.{Live, subs}
use Rattle.sn_live.specs.Parts.{part}
use Rattle.sn_live.specs.Runs.{Move, Running}
use Rattle.sn_live.proofs.Known.{component-sort, each_entry_more, fork-sort, known-at, own-sort, starts_known, stays_known}
use Rattle.sn_view.specs.Chains.{Comes, Started, Then}
use Rattle.sn_view.specs.Next.{form_of, start_view, Given, Next, answering_entry, both, items, local_of, local_step, plain_entry, router_of, Routing, routing_of}
use Rattle.sn_view.specs.Placed.{KeepsAside, own_kept, HasKey, HasKind, IsAlone, IsCell, IsFork, IsMove, Stands, WellPlaced, door_of, fit, kind_of, shape_of}
use Rattle.sn_view.specs.Routed.{AllRouted, is_dispatching, IsRoutedNode, has_route, is_going, is_going_turn, waits_going}
use Rattle.sn_view.specs.Seen.{cell_of, entry_of, erased, live_of, own_groups, running, seen_kept, seen_node, step_of, tree_of, turns_of_state}
use Rattle.sn_view.specs.View.{Entry, It, Mark, End, Waiting, Plain, InFlight, Finished, Turn, To, Own, State, Alone, Cell, InTurn, Freely, Child, Node, View, first_of}
use Rattle.sn_view.proofs.Chains.{stays_aside}
use Rattle.sn_view.proofs.Beginning.{begun}
use Rattle.sn_view.proofs.Chains.{chained}
use Rattle.sn_view.proofs.Children.{keys_of, keys-of-doors, not-own, seen-kept-here}
use Rattle.sn_view.proofs.Giving.{LiveN}
use Rattle.sn_view.proofs.Lists.{there-map}
use Rattle.sn_view.proofs.Local.{here}
use Rattle.sn_view.proofs.Whole.{one-move-each}

goes_true : (x : ModelItem) → Goes x → IsTrue (not (is_stuck x))
goes_true x goes = ap not goes

-- entries as they are seen
going_entries : (w : List (Entry ModelItem)) → EachEntry Goes (erased w) → IsTrue (list_all is_going w)
going_entries [] each = refl
going_entries (It x ∷ w) each = rw (goes_true x each.0) (going_entries w each.1)
going_entries (Mark ∷ w) each = going_entries w each
going_entries (End ∷ w) each = going_entries w each

going_waiting : (w : List Waiting) → EachEntry Goes (erased (map entry_of w)) → IsTrue (list_all waits_going w)
going_waiting [] each = refl
going_waiting (Plain (It x) ∷ w) each = rw (goes_true x each.0) (going_waiting w each.1)
going_waiting (Plain Mark ∷ w) each = going_waiting w each
going_waiting (Plain End ∷ w) each = going_waiting w each
going_waiting (InFlight call given ∷ w) each = going_waiting w each.1
going_waiting (Finished given ∷ w) each = going_waiting w each.1

going_turns : (ds : List (Entry Turn)) → EachEntry Goes (own_groups ds) → IsTrue (list_all is_going_turn ds)
going_turns [] each = refl
going_turns (It (To k) ∷ ds) each = going_turns ds each
going_turns (It (Own y) ∷ ds) each = rw (goes_true y each.0) (going_turns ds each.1)
going_turns (Mark ∷ ds) each = going_turns ds each
going_turns (End ∷ ds) each = going_turns ds each

going_items : (xs : List ModelItem) → Each Goes xs → IsTrue (list_all is_going (items xs))
going_items [] each = refl
going_items (x ∷ xs) each = rw (goes_true x each.0) (going_items xs each.1)

pub none_stuck : (xs : List ModelItem) → Each Goes xs → holds_stuck xs ≡ false
none_stuck [] each = refl
none_stuck (x ∷ xs) each = rw each.0 (none_stuck xs each.1)

-- an item that waits somewhere
each_there : (P : ModelItem → Type 0) (w : List (Entry ModelItem)) (p : ℕ) (x : ModelItem) → slice_get w p ≡ Some (It x) → EachEntry P (erased w) → P x
each_there P [] p x at each = cc
each_there P (It y ∷ w) zero x at each = let same : y ≡ x = cc in subst P same each.0
each_there P (Mark ∷ w) zero x at each = cc
each_there P (End ∷ w) zero x at each = cc
each_there P (It y ∷ w) (suc p) x at each = each_there P w p x at each.1
each_there P (Mark ∷ w) (suc p) x at each = each_there P w p x at each
each_there P (End ∷ w) (suc p) x at each = each_there P w p x at each

-- the box of the number is there, and the record matches its input
abbrev pub TakesRecord : List BoxProgram → ℕ → Entries → Type 0
TakesRecord boxes number r = (number < length boxes) × ForSome (slice_get boxes number) (λ program. Matches r (variant_of program.input))

-- so it is where what the box answers to the record is not stuck
answer_takes : (boxes : List BoxProgram) (fuel place number : ℕ) (r : Entries) → Each Goes (box_item boxes fuel place number (Rec r)) → TakesRecord boxes number r
answer_takes boxes fuel place number r goes = at (slice_get boxes number) refl goes
  where
    matched : (program : BoxProgram) (b : Bool) → is_match r (variant_of program.input) ≡ b → Each Goes (cond b (box_answer program place r fuel) (Stuck place ∷ [])) → Matches r (variant_of program.input)
    matched program true test goes = (is_match-Matches r (variant_of program.input)).0 test
    matched program false test goes = let stuck = goes.0 in cc

    at : (found : Option BoxProgram) → slice_get boxes number ≡ found → Each Goes (call_record found place fuel r) → TakesRecord boxes number r
    at None there goes = let stuck = goes.0 in cc
    at (Some program) there goes = (
      slice_get_within boxes number program there,
      (λ other also.
          let same : program ≡ other = (let u : Some program ≡ Some other = sym there ∙ also in cc) in
          subst (λ (b : BoxProgram). Matches r (variant_of b.input)) same (matched program (is_match r (variant_of program.input)) refl goes)),
    )

-- an item that goes to a child is itself, as far as passing by goes
passes_by : (place : ℕ) (k : Key) (x : ModelItem) → Goes x → (stream_key k ≡ key.Own → Goes (passed_by place k x)) → Goes (passed_by place k x)
passes_by place (routing.Branch i) x goes own = goes
passes_by place routing.Inside x goes own = goes
passes_by place (routing.Value n) x goes own = goes
passes_by place routing.Bypass x goes own = goes
passes_by place (routing.Broken fault) x goes own = refl
passes_by place routing.Stuck x goes own = own refl

-- What a node passes on next, where all that waits at it is going, and so is what its component emits.
module _ (run : Run) (answer : ModelItem → List ModelItem) where
  abbrev Emits : List Waiting → Type 0
  Emits ws = (x : ModelItem) (w : List (LiveEntry ModelItem)) → erased (map entry_of ws) ≡ LiveIt x ∷ w → Each Goes (answer x)

  going_answer : (e : Entry ModelItem) (ws : List Waiting) → Emits (Plain e ∷ ws) → IsTrue (list_all is_going (answering_entry answer e))
  going_answer (It x) ws emits = going_items (answer x) (emits x (erased (map entry_of ws)) refl)
  going_answer Mark ws emits = refl
  going_answer End ws emits = refl

abbrev GivesGoing : Option Given → Type 0
GivesGoing o = IfSome o (λ given. IsTrue (list_all is_going given.entries))

box_passes : (run : Run) (place number : ℕ) (ws : List Waiting) → EachEntry Goes (erased (map entry_of ws)) → Emits run (box_item (boxes_of run) (fuel_of run) place number) ws
    → GivesGoing (local_step run (Some (Net-F.Box place number)) Alone (first_of ws))
box_passes run place number [] each emits = tt
box_passes run place number (Plain (It (Rec r)) ∷ ws) each emits = tt
box_passes run place number (Plain (It (Fault fault)) ∷ ws) each emits = refl
box_passes run place number (Plain (It (Stuck at)) ∷ ws) each emits = let stuck = each.0 in cc
box_passes run place number (Plain Mark ∷ ws) each emits = refl
box_passes run place number (Plain End ∷ ws) each emits = refl
box_passes run place number (InFlight call given ∷ ws) each emits = tt
box_passes run place number (Finished given ∷ ws) each emits = going_items (box_item (boxes_of run) (fuel_of run) place number (Rec given)) (emits (Rec given) (erased (map entry_of ws)) refl)

filter_passes : (run : Run) (filter : _) (ws : List Waiting) → Emits run (filter_item filter) ws → GivesGoing (local_step run (Some (Net-F.Filter filter)) Alone (first_of ws))
filter_passes run filter [] emits = tt
filter_passes run filter (Plain e ∷ ws) emits = going_answer run (filter_item filter) e ws emits
filter_passes run filter (InFlight call given ∷ ws) emits = tt
filter_passes run filter (Finished given ∷ ws) emits = tt

cell_passes : (run : Run) (place : ℕ) (own patterns : List Labels) (state : CellState) (ws : List Waiting) → Emits run (cell_emits place patterns state) ws
    → GivesGoing (local_step run (Some (Net-F.Sync place own)) (Cell patterns state) (first_of ws))
cell_passes run place own patterns state [] emits = tt
cell_passes run place own patterns state (Plain e ∷ ws) emits = going_answer run (cell_emits place patterns state) e ws emits
cell_passes run place own patterns state (InFlight call given ∷ ws) emits = tt
cell_passes run place own patterns state (Finished given ∷ ws) emits = tt

-- the first entry of a dispatcher
abbrev HasRoute : Option Routing → Type 0
HasRoute o = IfSome o (λ routing. IsTrue (has_route routing.router routing.entry))

fork_routes : (place : ℕ) (key_of : ModelItem → Key) (ws : List Waiting) → EachEntry Goes (erased (map entry_of ws))
    → ((x : ModelItem) (w : List (LiveEntry ModelItem)) → erased (map entry_of ws) ≡ LiveIt x ∷ w → stream_key (key_of x) ≡ key.Own → Goes (passed_by place (key_of x) x))
    → HasRoute (both (Some (router place key_of)) (plain_entry (first_of ws)))
fork_routes place key_of [] each own = tt
fork_routes place key_of (Plain (It x) ∷ ws) each own = goes_true (passed_by place (key_of x) x) (passes_by place (key_of x) x each.0 (own x (erased (map entry_of ws)) refl))
fork_routes place key_of (Plain Mark ∷ ws) each own = refl
fork_routes place key_of (Plain End ∷ ws) each own = refl
fork_routes place key_of (InFlight call given ∷ ws) each own = tt
fork_routes place key_of (Finished given ∷ ws) each own = tt

-- What is known at the node's place in the tree.
module _ (g : View) (i : ℕ) (n : Node) (there : slice_get g.nodes i ≡ Some n) (placed : WellPlaced g) where
  stands : Stands (tree_of g) g.run (map shape_of g.nodes) (shape_of n)
  stands = placed.all i (shape_of n) (there-map shape_of g.nodes i n there)

  abbrev F : Live ModelItem CellState
  F = subs (map step_of n.steps) (live_of g)

  seen-here : F [] ≡ seen_node n
  seen-here = here g i n there placed.distinct stands

  -- components
  component_waits : (m : Machine ModelItem CellState) (s : CellState) → KnownThere Goes (Component m s) F → EachEntry Goes (erased (map entry_of n.waiting))
  component_waits m s known = subst (λ (l : LiveN). EachEntry Goes l.waiting) seen-here (component-sort Goes F m s known).0

  component_emits : (m : Machine ModelItem CellState) (s : CellState) → KnownThere Goes (Component m s) F → (x : ModelItem) (w : List (LiveEntry ModelItem))
      → erased (map entry_of n.waiting) ≡ LiveIt x ∷ w → Each Goes (m.emits (cell_of n.state) x)
  component_emits m s known x w first =
      subst (λ (l : LiveN). l.waiting ≡ LiveIt x ∷ w → Each Goes (m.emits l.state x)) seen-here ((component-sort Goes F m s known).1 x w) first

  component_answers : (m : Machine ModelItem CellState) (s : CellState) → KnownThere Goes (Component m s) F
      → EachEntry (λ x. Each Goes (m.emits (cell_of n.state) x)) (erased (map entry_of n.waiting))
  component_answers m s known =
      let (keeps, here, in_sort, out_sort, goes) = known.conveys in
      subst (λ (l : LiveN). EachEntry (λ x. Each Goes (m.emits l.state x)) l.waiting) seen-here
      (each_entry_more known.P (λ x. Each Goes (m.emits (F []).state x)) (λ x is. each_more known.Q Goes out_sort (m.emits (F []).state x) (goes (F []).state x known.known.1 is).1)
      ((F []).waiting) known.known.0)

  -- dispatchers
  module _ (place : ℕ) (merge : MergeKind) (key_of : ModelItem → Key) (child : Network → StreamKey → Network) (known : KnownThere Goes (dispatched merge (router place key_of) child) F) where
    abbrev sends : Router ModelItem
    sends = router place key_of

    abbrev children : StreamKey → Network
    children = with_own sends Passing (child (passing sends Passing))

    fork_waits : EachEntry Goes (erased (map entry_of n.waiting))
    fork_waits = subst (λ (l : LiveN). EachEntry Goes l.waiting) seen-here (fork-sort Goes F (merge_of merge) sends children known).0

    fork_keeps : (k : StreamKey) → EachEntry Goes (seen_kept n.state n.children k)
    fork_keeps k = subst (λ (l : LiveN). EachEntry Goes (l.kept k)) seen-here ((fork-sort Goes F (merge_of merge) sends children known).1 k)

    fork_own : (x : ModelItem) (w : List (LiveEntry ModelItem)) → erased (map entry_of n.waiting) ≡ LiveIt x ∷ w → stream_key (key_of x) ≡ key.Own → Goes (passed_by place (key_of x) x)
    fork_own x w first to_own =
        own-sort Goes F (merge_of merge) sends children Passing refl known x w (ap (λ (l : LiveN). l.waiting) seen-here ∙ first) to_own

  -- a node by its form
  module _ (form : Net-F Net) (is_form : form_of g n ≡ Some form) (kind : HasKind form (length (map door_of n.children)) (kind_of n.state))
      (distinct : AreDistinct (keys_of n.children)) (own_first : IsFork (kind_of n.state) → HasKey (map door_of n.children) 0 key.Own) where
    abbrev Routed : Type 0
    Routed = IsRoutedNode g n

    passes_as : GivesGoing (local_step g.run (Some form) n.state (first_of n.waiting)) → GivesGoing (local_of g n)
    passes_as passes = subst (λ (f : Option (Net-F Net)). GivesGoing (local_step g.run f n.state (first_of n.waiting))) (sym is_form) passes

    routes_as : HasRoute (both (router_of (Some form) n.left) (plain_entry (first_of n.waiting))) → HasRoute (routing_of g n)
    routes_as routes = subst (λ (f : Option (Net-F Net)). HasRoute (both (router_of f n.left) (plain_entry (first_of n.waiting)))) (sym is_form) routes

    no_child : {X : Type 0} (cs : List Child) (c : ℕ) (child : Child) → cs ≡ [] → slice_get cs c ≡ Some child → X
    no_child [] c child none at = cc
    no_child (x ∷ cs) c child none at = cc

    first_kept : (cs : List Child) (child : Child) → slice_get cs 0 ≡ Some child → own_kept cs ≡ [] → IsTrue (list_all is_going child.kept)
    first_kept [] child at none = cc
    first_kept (x ∷ cs) child at none = let same : x ≡ child = cc in subst (λ (w : List (Entry ModelItem)). IsTrue (list_all is_going w)) (sym (ap (λ (y : Child). y.kept) (sym same) ∙ none)) refl

    -- what is kept, where all that is seen of it is going
    kept_going : (state : State) → KeepsAside state n.children → (IsFork (kind_of state) → HasKey (map door_of n.children) 0 key.Own) → ((k : StreamKey) → EachEntry Goes (seen_kept state n.children k))
        → (c : ℕ) (child : Child) → slice_get n.children c ≡ Some child → IsTrue (list_all is_going child.kept)
    kept_going Alone aside fork keeps c child at = no_child n.children c child aside at
    kept_going (Cell patterns cell) aside fork keeps c child at = no_child n.children c child aside at
    kept_going (InTurn ds) aside fork keeps zero child at = first_kept n.children child at aside
    kept_going (InTurn ds) aside fork keeps (suc c) child at =
        going_entries child.kept
        (subst (EachEntry Goes) (seen-kept-here (InTurn ds) n.children (suc c) child (not-own n.children c child distinct (fork tt) at) at distinct) (keeps child.key))
    kept_going (Freely epochs) aside fork keeps c child at = going_entries child.kept (subst (EachEntry Goes) (seen-kept-here (Freely epochs) n.children c child tt at distinct) (keeps child.key))

    -- and what was decided
    decided_going : (state : State) → ((k : StreamKey) → EachEntry Goes (seen_kept state n.children k)) → IsTrue (list_all is_going_turn (turns_of_state state))
    decided_going Alone keeps = refl
    decided_going (Cell patterns cell) keeps = refl
    decided_going (InTurn ds) keeps = going_turns ds (keeps key.Own)
    decided_going (Freely epochs) keeps = refl

    -- a component has no children, and decides nothing
    none_kept : (state : State) (patterns : List Labels) → (kind_of state ≡ IsAlone) ⊎ (kind_of state ≡ IsCell patterns) → KeepsAside state n.children
        → IsTrue (list_all is_going_turn (turns_of_state state)) × ((c : ℕ) (child : Child) → slice_get n.children c ≡ Some child → IsTrue (list_all is_going child.kept))
    none_kept Alone patterns is aside = (refl, (λ c child at. no_child n.children c child aside at))
    none_kept (Cell own cell) patterns is aside = (refl, (λ c child at. no_child n.children c child aside at))
    none_kept (InTurn ds) patterns (inl is) aside = cc
    none_kept (InTurn ds) patterns (inr is) aside = cc
    none_kept (Freely epochs) patterns (inl is) aside = cc
    none_kept (Freely epochs) patterns (inr is) aside = cc

    component_routed : (m : Machine ModelItem CellState) (s : CellState) → KnownThere Goes (Component m s) F → (patterns : List Labels) → (kind_of n.state ≡ IsAlone) ⊎ (kind_of n.state ≡ IsCell patterns)
        → KeepsAside n.state n.children → GivesGoing (local_of g n) → HasRoute (routing_of g n) → Routed
    component_routed m s known patterns is aside passes routes =
        let none = none_kept n.state patterns is aside in
        record { waiting = going_waiting n.waiting (component_waits m s known); decided = none.0; kept = none.1; passes = passes; routes = routes }

    fork_routed : (place : ℕ) (merge : MergeKind) (key_of : ModelItem → Key) (child : Network → StreamKey → Network) → KnownThere Goes (dispatched merge (router place key_of) child) F
        → router_of (Some form) n.left ≡ Some (router place key_of) → KeepsAside n.state n.children → GivesGoing (local_of g n) → Routed
    fork_routed place merge key_of child known routes_by aside passes = record {
      waiting = going_waiting n.waiting (fork_waits place merge key_of child known);
      decided = decided_going n.state (fork_keeps place merge key_of child known);
      kept = kept_going n.state aside own_first (fork_keeps place merge key_of child known);
      passes = passes;
      routes = routes_as (subst (λ (r : Option (Router ModelItem)). HasRoute (both r (plain_entry (first_of n.waiting)))) (sym routes_by)
          (fork_routes place key_of n.waiting (fork_waits place merge key_of child known) (fork_own place merge key_of child known)));
    }

  alone_passes : (form : Net-F Net) (state : State) → kind_of state ≡ IsAlone → GivesGoing (local_step g.run (Some form) Alone (first_of n.waiting)) → GivesGoing (local_step g.run (Some form) state (first_of n.waiting))
  alone_passes form Alone is passes = passes
  alone_passes form (Cell patterns cell) is passes = cc
  alone_passes form (InTurn ds) is passes = cc
  alone_passes form (Freely epochs) is passes = cc

  sync_passes : (place : ℕ) (own : List Labels) (state : State) → kind_of state ≡ IsCell own → Emits g.run (cell_emits place own (cell_of state)) n.waiting
      → GivesGoing (local_step g.run (Some (Net-F.Sync place own)) state (first_of n.waiting))
  sync_passes place own (Cell patterns cell) is emits =
      let same : own ≡ patterns = cc in
      cell_passes g.run place own patterns cell n.waiting (subst (λ (p : List Labels). Emits g.run (cell_emits place p cell) n.waiting) same emits)
  sync_passes place own Alone is emits = cc
  sync_passes place own (InTurn ds) is emits = cc
  sync_passes place own (Freely epochs) is emits = cc

  -- a dispatcher passes nothing on by itself
  none_passes : (form : Net-F Net) → is_dispatching form ≡ true → GivesGoing (local_step g.run (Some form) n.state (first_of n.waiting))
  none_passes (Net-F.Box place number) is = cc
  none_passes (Net-F.Filter filter) is = cc
  none_passes (Net-F.Sync place patterns) is = cc
  none_passes (Net-F.Serial left right) is = cc
  none_passes (Net-F.Choice place merge branches faces) is = tt
  none_passes (Net-F.Star place merge body exit guard) is = tt
  none_passes (Net-F.Split place merge body id) is = tt

  by_form : (form : Net-F Net) → form_of g n ≡ Some form → HasKind form (length (map door_of n.children)) (kind_of n.state) → AreDistinct (keys_of n.children)
      → (IsFork (kind_of n.state) → HasKey (map door_of n.children) 0 key.Own) → KeepsAside n.state n.children → KnownThere Goes (fit (setting_of g.run) form n.left) F → IsRoutedNode g n
  by_form (Net-F.Box place number) is kind distinct own aside known =
      component_routed (Net-F.Box place number) is kind distinct own _ _ known [] (inl kind) aside
      (passes_as (Net-F.Box place number) is kind distinct own
      (alone_passes (Net-F.Box place number) n.state kind (box_passes g.run place number n.waiting (component_waits _ _ known) (component_emits _ _ known))))
      (routes_as (Net-F.Box place number) is kind distinct own tt)
  by_form (Net-F.Filter filter) is kind distinct own aside known =
      component_routed (Net-F.Filter filter) is kind distinct own _ _ known [] (inl kind) aside
      (passes_as (Net-F.Filter filter) is kind distinct own (alone_passes (Net-F.Filter filter) n.state kind (filter_passes g.run filter n.waiting (component_emits _ _ known))))
      (routes_as (Net-F.Filter filter) is kind distinct own tt)
  by_form (Net-F.Sync place patterns) is kind distinct own aside known =
      component_routed (Net-F.Sync place patterns) is kind distinct own _ _ known patterns (inr kind) aside
      (passes_as (Net-F.Sync place patterns) is kind distinct own (sync_passes place patterns n.state kind (component_emits _ _ known)))
      (routes_as (Net-F.Sync place patterns) is kind distinct own tt)
  by_form (Net-F.Serial left right) is kind distinct own aside known = absurd kind
  by_form (Net-F.Choice place merge branches faces) is kind distinct own aside known =
      fork_routed (Net-F.Choice place merge branches faces) is kind distinct own place merge (of_record (choice_key faces)) (branch_child (map (tree (setting_of g.run)) branches)) known refl aside
      (passes_as (Net-F.Choice place merge branches faces) is kind distinct own (none_passes (Net-F.Choice place merge branches faces) refl))
  by_form (Net-F.Split place merge body id) is kind distinct own aside known =
      fork_routed (Net-F.Split place merge body id) is kind distinct own place merge (of_record (split_key id)) (replica_child (tree (setting_of g.run) body)) known refl aside
      (passes_as (Net-F.Split place merge body id) is kind distinct own (none_passes (Net-F.Split place merge body id) refl))
  by_form (Net-F.Star place merge body exit guard) is kind distinct own aside known = at n.left refl
    where
      at : (left : ℕ) → n.left ≡ left → IsRoutedNode g n
      at zero same =
          fork_routed (Net-F.Star place merge body exit guard) is kind distinct own place merge (of_record (level_key place exit guard zero)) (λ otherwise k. otherwise)
          (subst (λ (left : ℕ). KnownThere Goes (fit (setting_of g.run) (Net-F.Star place merge body exit guard) left) F) same known)
          (ap (λ (left : ℕ). router_of (Some (Net-F.Star place merge body exit guard)) left) same) aside
          (passes_as (Net-F.Star place merge body exit guard) is kind distinct own (none_passes (Net-F.Star place merge body exit guard) refl))
      at (suc left) same =
          fork_routed (Net-F.Star place merge body exit guard) is kind distinct own place merge (of_record (level_key place exit guard (suc left)))
          (inside_child (Series (tree (setting_of g.run) body) (level place merge exit guard (tree (setting_of g.run) body) left)))
          (subst (λ (left : ℕ). KnownThere Goes (fit (setting_of g.run) (Net-F.Star place merge body exit guard) left) F) same known)
          (ap (λ (left : ℕ). router_of (Some (Net-F.Star place merge body exit guard)) left) same) aside
          (passes_as (Net-F.Star place merge body exit guard) is kind distinct own (none_passes (Net-F.Star place merge body exit guard) refl))

  module _ (run : Run) (same : g.run ≡ run) (P Q : ModelItem → Type 0) (conveys : Conveys Goes (tree (setting_of run) (net_of run)) P Q)
      (known : RunKnown Goes (tree (setting_of run) (net_of run)) P Q conveys (running g)) where
    known_there : KnownThere Goes (fit (setting_of g.run) stands.form n.left) F
    known_there =
        let part_here : Network = fit (setting_of g.run) stands.form n.left in
        known-at Goes (tree (setting_of run) (net_of run)) P Q conveys (live_of g) (map step_of n.steps) part_here
        (subst (λ (r : Run). at_steps (tree (setting_of r) (net_of r)) (map step_of n.steps) ≡ Some part_here) same stands.fits) known.live

    pub node_routed : KeepsAside n.state n.children → IsRoutedNode g n
    node_routed aside = by_form stands.form stands.is_form stands.has_kind (subst AreDistinct (keys-of-doors n.children) stands.keys) stands.own_first aside known_there

    pub record_fits : (p place number : ℕ) (r : Entries) → form_of g n ≡ Some (Net-F.Box place number) → slice_get n.waiting p ≡ Some (Plain (It (Rec r))) → TakesRecord (boxes_of run) number r
    record_fits p place number r is_box waits =
        let is : stands.form ≡ Net-F.Box place number = (let u : Some stands.form ≡ Some (Net-F.Box place number) = sym stands.is_form ∙ is_box in cc) in
        let box_known = subst (λ (form : Net-F Net). KnownThere Goes (fit (setting_of g.run) form n.left) F) is known_there in
        subst (λ (h : Run). TakesRecord (boxes_of h) number r) same
        (answer_takes (boxes_of g.run) (fuel_of g.run) place number r
        (each_there _ (map entry_of n.waiting) p (Rec r) (there-map entry_of n.waiting p (Plain (It (Rec r))) waits) (component_answers _ _ box_known)))

-- After any list of events.
module _ (run : Run) (formed : IsWellFormed (boxes_of run) (net_of run)) (typed : All (IsTyped (boxes_of run) (net_of run)) (input_of run)) where
  abbrev In : ModelItem → Type 0
  In = IsOf (safely (setting_of run) (net_of run) formed)

  abbrev Comes_out : ModelItem → Type 0
  Comes_out = IsOf (FlowsFrom (setting_of run) (net_of run) formed (safely (setting_of run) (net_of run) formed))

  pub conveyed : Conveys Goes (tree (setting_of run) (net_of run)) In Comes_out
  conveyed = net_conveys (setting_of run) (net_of run) formed (safely (setting_of run) (net_of run) formed) (λ v safe. safe)

  abbrev Known : View → Type 0
  Known g = RunKnown Goes (tree (setting_of run) (net_of run)) In Comes_out conveyed (running g)

  known_then : (g g' : View) → g.run ≡ run → IsMove g g' → Known g → Known g'
  known_then g g' same (inl is) known = subst (λ (r : Running ModelItem CellState). RunKnown Goes (tree (setting_of run) (net_of run)) In Comes_out conveyed r) (sym is) known
  known_then g g' same (inr move) known =
      stays_known Goes (tree (setting_of run) (net_of run)) In Comes_out conveyed (running g) (running g')
      (subst (λ (r : Run). Move (part (tree (setting_of r) (net_of r))) (running g) (running g')) same move) known

  pub known_after : (g : View) → Comes run g → Known g
  known_after g Started =
      starts_known Goes (tree (setting_of run) (net_of run)) In Comes_out conveyed (input_of run) (running (start_view run))
      (each_more (IsTyped (boxes_of run) (net_of run)) In (typed_is_safe (setting_of run) (net_of run) formed) (input_of run) (each_of_all (IsTyped (boxes_of run) (net_of run)) (input_of run) typed)) (begun run)
  known_after g (Then h e comes may) =
      let before = chained run h formed comes in
      known_then h (Next h e) before.same (one-move-each h e before.placed before.sane may) (known_after h comes)

  pub all_routed : (g : View) → Comes run g → AllRouted g
  all_routed g comes =
      let stand = chained run g formed comes in
      let known = known_after g comes in
      record {
        nodes = λ i n at. node_routed g i n at stand.placed run stand.same In Comes_out conveyed known (stays_aside run formed g comes i n at);
        ready = going_entries g.ready (each_entry_more Comes_out Goes (of_goes _) (erased g.ready) known.ready);
        out = none_stuck g.out (each_more Comes_out Goes (of_goes _) g.out known.out);
      }

  pub records_fit : (g : View) → Comes run g → (i : ℕ) (n : Node) → slice_get g.nodes i ≡ Some n → (p place number : ℕ) (r : Entries) → form_of g n ≡ Some (Net-F.Box place number)
      → slice_get n.waiting p ≡ Some (Plain (It (Rec r))) → TakesRecord (boxes_of run) number r
  records_fit g comes i n at p place number r is_box waits =
      let stand = chained run g formed comes in
      record_fits g i n at stand.placed run stand.same In Comes_out conveyed (known_after g comes) p place number r is_box waits
