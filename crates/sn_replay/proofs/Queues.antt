-- No event looks at the queues of a run.
use Rattle.std.proofs.Common.{◌≡◌, ℕ, zero, suc, Bool, true, false, List, [], ◌∷◌, Option, Some, None, refl, sym, ap, ◌∙◌, subst, inl, inr, ◌⊎◌}
use Rattle.std.specs.Prelude.{◌+◌, ◌++◌, ◌||◌, ◌&&◌, not, is_some, slice_get, unwrap_or, length, IsTrue, if◌then◌else◌}
use Rattle.std.specs.List.{list_any}
use Rattle.std.specs.Option.{option_map}
use Rattle.sn_streams.specs.Forks.{Router}
use Rattle.sn_streams.specs.Keys.{Key}
use Rattle.sn_net.specs.declared.net.Net.{Net}
use Rattle.sn_net.specs.declared.net.Net.TheOpen.{Net-F}
use Rattle.sn_net.specs.declared.net.Net.TheViews.{out-Net}
use Rattle.sn_net.specs.Item.{ModelItem}
use Rattle.sn_model.specs.declared.run.Run.{Run}
use Rattle.sn_model.specs.Components.{box_item}
use Rattle.sn_view.specs.Epochs.{Epochs, closed, is_passed, marked, moved_on}
use Rattle.sn_view.specs.View.{Entry, It, Mark, End, Waiting, Plain, Turn, To, Own, State, Alone, Cell, InTurn, Freely, Child, Target, Out, ToNode, ToChild, Node, View, Happening, Take, Start, Finish, Local, Route, Unfold, Merge, Emit, at_node, changed_at, child_gives, first_of, rest_of}
use Rattle.sn_view.specs.Next.{Given, IsEnabled, Next, Routing, adds_child, after, both, box_gives, decides, decision_of, det_merges, emitted, enabled, form_of, free_merges, free_routes, group_gives, group_of, has_no_call, if_node, is_box, is_box_of, keeps, kept_of, key_of, local_of, local_step, local_then, mark_passes, may_route, may_unfold_then, merges_by, needs, new_nodes, next_input, node_at, passed, plain_entry, routed, router_of, routes_by, routing_of, send, start_view, takes_kept, to_all, to_entry, took, unfolded}
use Rattle.sn_view.specs.Parts.{part_at, plan}
use Rattle.sn_view.specs.Placed.{AtRest}
use Rattle.sn_trace_lines.specs.declared.line.Line.{Line}
use Rattle.sn_event_lines.specs.Naming.{Leads, has_fault}
use Rattle.sn_replay.specs.Queues.{AreAlike}
use Rattle.sn_replay.specs.Replays.{Accepts, BadLine, IsVerdict, NotEnabled, Replayed, Unfinished, Verdict}

pub alike_with_itself : (run : Run) → AreAlike run run
alike_with_itself run = record { net = refl; boxes = refl; fuel = refl; depth = refl; input = refl }

pub alike_back : (run other : Run) → AreAlike run other → AreAlike other run
alike_back run other a = record { net = sym a.net; boxes = sym a.boxes; fuel = sym a.fuel; depth = sym a.depth; input = sym a.input }

-- WHAT IS DONE TO A GRAPH IS DONE TO IT UNDER ANOTHER RUN
module _ (run : Run) where
  -- the graph, of this run
  abbrev under : View → View
  under g = record g { run = run }

  send-under : (goes : Target) (o : List (Entry ModelItem)) (g : View) → send goes o (under g) ≡ under (send goes o g)
  send-under Out o g = refl
  send-under (ToNode n) o g = refl
  send-under (ToChild n c) o g = refl

  took-under : (x : Option ModelItem) (g : View) → took x (under g) ≡ under (took x g)
  took-under (Some x) g = refl
  took-under None g = refl

  local-under : (i : ℕ) (n : Node) (g : View) (o : Option Given) → local_then i n (under g) o ≡ under (local_then i n g o)
  local-under i n g (Some given) = send-under n.goes given.entries (at_node i (λ m. keeps given.state (passed m)) g)
  local-under i n g None = refl

  to-all-under : (o : List (Entry ModelItem)) (cs : List Child) (g : View) → to_all cs o (under g) ≡ under (to_all cs o g)
  to-all-under o [] g = refl
  to-all-under o (c ∷ cs) g = to-all-under o cs (send (ToNode c.entry) o g)

  to-entry-under : (c : ℕ) (o : List (Entry ModelItem)) (child : Option Child) (g : View) → to_entry c o child (under g) ≡ under (to_entry c o child g)
  to-entry-under zero o child g = refl
  to-entry-under (suc c) o (Some child) g = refl
  to-entry-under (suc c) o None g = refl

  free-routes-under : (i : ℕ) (n : Node) (epochs : Epochs) (r : Router ModelItem) (e : Entry ModelItem) (c : ℕ) (g : View) → free_routes i n epochs r e c (under g) ≡ under (free_routes i n epochs r e c g)
  free-routes-under i n epochs r (It x) zero g = refl
  free-routes-under i n epochs r (It x) (suc c) g = to-entry-under (suc c) (It x ∷ []) (slice_get n.children (suc c)) (at_node i passed g)
  free-routes-under i n epochs r Mark c g =
      to-all-under (Mark ∷ []) (rest_of n.children) (at_node i (λ m. keeps (Freely (closed epochs)) (child_gives 0 (Mark ∷ []) (passed m))) g)
  free-routes-under i n epochs r End c g = refl

  routes-by-under : (i : ℕ) (n : Node) (state : State) (routing : Routing) (c : ℕ) (g : View) → routes_by i n state routing c (under g) ≡ under (routes_by i n state routing c g)
  routes-by-under i n Alone routing c g = refl
  routes-by-under i n (Cell patterns cell) routing c g = refl
  routes-by-under i n (InTurn ds) routing c g =
      to-entry-under c (group_of routing.entry) (slice_get n.children c) (at_node i (decides ds (decision_of routing.router routing.entry)) g)
  routes-by-under i n (Freely epochs) routing c g = free-routes-under i n epochs routing.router routing.entry c g

  routed-under : (i : ℕ) (n : Node) (o : Option Routing) (g : View) → routed i n o (under g) ≡ under (routed i n o g)
  routed-under i n None g = refl
  routed-under i n (Some routing) g = by (needs n routing)
    where
      by : (o : Option ℕ) → unwrap_or (option_map (λ c. routes_by i n n.state routing c (under g)) o) (under g) ≡ under (unwrap_or (option_map (λ c. routes_by i n n.state routing c g) o) g)
      by None = refl
      by (Some c) = routes-by-under i n n.state routing c g

  group-under : (i : ℕ) (n : Node) (c : ℕ) (ds : List (Entry Turn)) (o : Option (Entry ModelItem)) (g : View) → group_gives i n c ds o (under g) ≡ under (group_gives i n c ds o g)
  group-under i n c ds (Some (It y)) g = send-under n.goes (It y ∷ []) (at_node i (takes_kept c) g)
  group-under i n c ds (Some Mark) g = refl
  group-under i n c ds (Some End) g = refl
  group-under i n c ds None g = refl

  det-merges-under : (i : ℕ) (n : Node) (c : ℕ) (ds : List (Entry Turn)) (o : Option (Entry Turn)) (g : View) → det_merges i n c ds o (under g) ≡ under (det_merges i n c ds o g)
  det-merges-under i n c ds (Some (It (Own y))) g = send-under n.goes (It y ∷ []) (at_node i (keeps (InTurn (rest_of ds))) g)
  det-merges-under i n c ds (Some (It (To k))) g = group-under i n c ds (first_of (kept_of n.children c)) g
  det-merges-under i n c ds (Some Mark) g = send-under n.goes (Mark ∷ []) (at_node i (keeps (InTurn (rest_of ds))) g)
  det-merges-under i n c ds (Some End) g = send-under n.goes (End ∷ []) (at_node i (keeps (InTurn (rest_of ds))) g)
  det-merges-under i n c ds None g = refl

  if-under : (b : Bool) (x y u v : View) → x ≡ under u → y ≡ under v → (if b then x else y) ≡ under (if b then u else v)
  if-under true x y u v is other = is
  if-under false x y u v is other = other

  mark-under : (i : ℕ) (n : Node) (c : ℕ) (e : Epochs) (g : View) → mark_passes i n c e (under g) ≡ under (mark_passes i n c e g)
  mark-under i n c e g = if-under (is_passed e) _ _ _ _ (send-under n.goes (Mark ∷ []) (at_node i (λ m. keeps (Freely (moved_on e)) (takes_kept c m)) g)) refl

  free-merges-under : (i : ℕ) (n : Node) (c : ℕ) (epochs : Epochs) (o : Option (Entry ModelItem)) (g : View) → free_merges i n c epochs o (under g) ≡ under (free_merges i n c epochs o g)
  free-merges-under i n c epochs (Some (It y)) g = send-under n.goes (It y ∷ []) (at_node i (takes_kept c) g)
  free-merges-under i n c epochs (Some Mark) g = mark-under i n c (marked c epochs) g
  free-merges-under i n c epochs (Some End) g = send-under n.goes (End ∷ []) (at_node i (takes_kept c) g)
  free-merges-under i n c epochs None g = refl

  merges-under : (i : ℕ) (n : Node) (c : ℕ) (state : State) (g : View) → merges_by i n c state (under g) ≡ under (merges_by i n c state g)
  merges-under i n c Alone g = refl
  merges-under i n c (Cell patterns cell) g = refl
  merges-under i n c (InTurn ds) g = det-merges-under i n c ds (first_of ds) g
  merges-under i n c (Freely epochs) g = free-merges-under i n c epochs (first_of (kept_of n.children c)) g

  emitted-under : (o : Option (Entry ModelItem)) (g : View) → emitted o (under g) ≡ under (emitted o g)
  emitted-under (Some (It y)) g = refl
  emitted-under (Some Mark) g = refl
  emitted-under (Some End) g = refl
  emitted-under None g = refl

  node-under : (f h : Node → View) (g : View) → ((n : Node) → f n ≡ under (h n)) → (o : Option Node) → if_node f (under g) o ≡ under (if_node h g o)
  node-under f h g same None = refl
  node-under f h g same (Some n) = same n

  -- WHAT AN EVENT LOOKS AT IS THE SAME WHERE THE RUNS ARE ALIKE
  module _ (g : View) (alike : AreAlike run g.run) where
    same-form : (n : Node) → form_of (under g) n ≡ form_of g n
    same-form n = λ j. option_map out-Net (part_at (alike.net j) n.path)

    same-input : next_input (under g) ≡ next_input g
    same-input = λ j. slice_get (alike.input j) g.taken

    same-step : (form : Option (Net-F Net)) (state : State) (w : Option Waiting) → local_step run form state w ≡ local_step g.run form state w
    same-step (Some (Net-F.Box place number)) Alone (Some w) =
        λ j. option_map (λ o. record { state = Alone; entries = o }) (box_gives (box_item (alike.boxes j) (alike.fuel j) place number) w)
    same-step (Some (Net-F.Filter filter)) Alone (Some (Plain e)) = refl
    same-step (Some (Net-F.Sync place own)) (Cell patterns cell) (Some (Plain e)) = refl
    same-step other state w = refl

    same-local : (n : Node) → local_of (under g) n ≡ local_of g n
    same-local n = same-step (form_of (under g) n) n.state (first_of n.waiting) ∙ ap (λ form. local_step g.run form n.state (first_of n.waiting)) (same-form n)

    same-routing : (n : Node) → routing_of (under g) n ≡ routing_of g n
    same-routing n = λ j. both (router_of (same-form n j) n.left) (plain_entry (first_of n.waiting))

    unfolded-under : (i : ℕ) (n : Node) (o : Option Routing) → unfolded i n o (under g) ≡ under (unfolded i n o g)
    unfolded-under i n None = refl
    unfolded-under i n (Some routing) =
        let k : Key = key_of routing.router routing.entry in
        λ j. record g {
          run = run;
          nodes = changed_at i (adds_child k (length g.nodes)) g.nodes ++ new_nodes (alike.depth j) (same-form n j) k i n (length g.nodes);
        }

    after-under : (e : Happening) → after (under g) e ≡ under (after g e)
    after-under Take = ap (λ x. took x (under g)) same-input ∙ took-under (next_input g) g
    after-under (Start i) = refl
    after-under (Finish call number place given) = refl
    after-under (Local i) = node-under _ _ g (λ n. ap (λ o. local_then i n (under g) o) (same-local n) ∙ local-under i n g (local_of g n)) (node_at i g)
    after-under (Route i) = node-under _ _ g (λ n. ap (λ o. routed i n o (under g)) (same-routing n) ∙ routed-under i n (routing_of g n) g) (node_at i g)
    after-under (Unfold i) = node-under _ _ g (λ n. ap (λ o. unfolded i n o (under g)) (same-routing n) ∙ unfolded-under i n (routing_of g n)) (node_at i g)
    after-under (Merge i c) = node-under _ _ g (λ n. merges-under i n c n.state g) (node_at i g)
    after-under Emit = emitted-under (first_of g.ready) g

    next-under : (e : Happening) → Next (under g) e ≡ under (Next g e)
    next-under e = ap (λ (h : View). record h { applied = g.applied + 1 }) (after-under e)

    same-enabled : (e : Happening) → enabled (under g) e ≡ enabled g e
    same-enabled Take = ap (λ x. is_some x || not g.ended) same-input
    same-enabled (Start i) = λ j. if_node (λ n. is_box (same-form n j) && list_any has_no_call n.waiting) false (node_at i g)
    same-enabled (Finish call number place given) = refl
    same-enabled (Local i) = λ j. if_node (λ n. is_some (same-local n j)) false (node_at i g)
    same-enabled (Route i) = λ j. if_node (λ n. may_route n (same-routing n j)) false (node_at i g)
    same-enabled (Unfold i) = λ j. if_node (λ n. may_unfold_then n (same-routing n j)) false (node_at i g)
    same-enabled (Merge i c) = refl
    same-enabled Emit = refl

    may-under : (e : Happening) → IsEnabled g e → IsEnabled (under g) e
    may-under Take may = subst IsTrue (sym (same-enabled Take)) may
    may-under (Start i) may = subst IsTrue (sym (same-enabled (Start i))) may
    may-under (Finish call number place given) (k, n, within, is, has) =
        (k, n, within, is, record { at_box = subst (λ form. IsTrue (is_box_of number place form)) (sym (same-form n)) has.at_box; flies = has.flies })
    may-under (Local i) may = subst IsTrue (sym (same-enabled (Local i))) may
    may-under (Route i) may = subst IsTrue (sym (same-enabled (Route i))) may
    may-under (Unfold i) may = subst IsTrue (sym (same-enabled (Unfold i))) may
    may-under (Merge i c) may = may
    may-under Emit may = may

    rest-under : AtRest g → AtRest (under g)
    rest-under rest = record { none_enabled = λ e. same-enabled e ∙ rest.none_enabled e; no_call = rest.no_call }

    ends-under : AtRest g ⊎ (has_fault g ≡ true) → AtRest (under g) ⊎ (has_fault g ≡ true)
    ends-under (inl rest) = inl (rest-under rest)
    ends-under (inr fault) = inr fault

-- an event leaves the run as it is
run-kept : (g : View) (e : Happening) → (Next g e).run ≡ g.run
run-kept g e = ap (λ (h : View). h.run) (next-under g.run g (alike_with_itself g.run) e)

leads-run : (ls : List Line) (g h : View) → Leads g ls h → h.run ≡ g.run
leads-run [] g h is = ap (λ (v : View). v.run) is
leads-run (l ∷ ls) g h (next, happens, more) = leads-run ls next h more ∙ ap (λ (v : View). v.run) happens.is_next ∙ run-kept g happens.event

leads-under : (run : Run) (ls : List Line) (g h : View) → AreAlike run g.run → Leads g ls h → Leads (under run g) ls (under run h)
leads-under run [] g h alike is = ap (under run) is
leads-under run (l ∷ ls) g h alike (next, happens, more) = (
  under run next,
  record {
    event = happens.event;
    named = happens.named;
    may = may-under run g alike happens.event happens.may;
    sound = happens.sound;
    is_next = ap (under run) happens.is_next ∙ sym (next-under run g alike happens.event);
  },
  leads-under run ls next h (subst (AreAlike run) (sym (ap (λ (v : View). v.run) happens.is_next ∙ run-kept g happens.event)) alike) more,
)

module _ (run other : Run) (alike : AreAlike run other) (text : List ℕ) where
  back : AreAlike other run
  back = alike_back run other alike

  same-start : start_view other ≡ under other (start_view run)
  same-start = λ j. record {
    run = other;
    nodes = (plan (back.depth j) (back.net j)).nodes [] [] Out 0;
    applied = 0;
    calls = 0;
    taken = 0;
    ended = false;
    ready = [];
    out = [];
  }

  module _ (lines : List Line) (rest : List ℕ) (last : View) (a : Accepts run text lines rest last) where
    accepted : Accepts other text lines rest (under other last)
    accepted = record { front = a.front; leads = subst (λ (g : View). Leads g lines (under other last)) (sym same-start) (leads-under other lines (start_view run) last back a.leads) }

    -- the last graph is of the run
    last-alike : AreAlike other last.run
    last-alike = subst (AreAlike other) (sym (leads-run lines (start_view run) last a.leads)) back

    still-may : (e : Happening) → IsEnabled (under other last) e → IsEnabled last e
    still-may e = may-under last.run (under other last) (alike_back other last.run last-alike) e

    still-rests : AtRest (under other last) → AtRest last
    still-rests = rest-under last.run (under other last) (alike_back other last.run last-alike)

  -- ONE VERDICT FOR ALL QUEUES
  pub same_verdict : (verdict : Verdict) → IsVerdict run text verdict → IsVerdict other text verdict
  same_verdict (Replayed ys) v = record {
    lines = v.lines;
    last = under other v.last;
    accepts = accepted v.lines [] v.last v.accepts;
    ends = ends-under other v.last (last-alike v.lines [] v.last v.accepts) v.ends;
    out = v.out;
  }
  same_verdict (BadLine n) v =
      record { lines = v.lines; last = under other v.last; rest = v.rest; accepts = accepted v.lines v.rest v.last v.accepts; number = v.number; more = v.more; bad = v.bad }
  same_verdict (NotEnabled n) v = record {
    lines = v.lines;
    last = under other v.last;
    rest = v.rest;
    accepts = accepted v.lines v.rest v.last v.accepts;
    number = v.number;
    line = v.line;
    after = v.after;
    is = v.is;
    sound = v.sound;
    idle = λ e named may. v.idle e named (still-may v.lines v.rest v.last v.accepts e may);
  }
  same_verdict Unfinished v = record {
    lines = v.lines;
    last = under other v.last;
    accepts = accepted v.lines [] v.last v.accepts;
    sound = v.sound;
    busy = λ rest. v.busy (still-rests v.lines [] v.last v.accepts rest);
  }
