-- The event Local, in the view.
use Rattle.std.proofs.Common.{◌≡◌, ℕ, ◌<◌, ◌≤◌, List, length, get_or, set, true, false, refl, sym, ap, subst, ◌∙◌, arith}
use Rattle.std.specs.Prelude.{slice_get, None, Some, IfSome, is_some}
use Rattle.std.proofs.lemmas.List.{length-map, map-set}
use Rattle.std.proofs.lemmas.List.Elements.{All-get_or, All-same, All-set}
use Rattle.std.proofs.lemmas.Option.{slice_get_read}
use Rattle.sn_net.specs.Item.{ModelItem}
use Rattle.sn_model.specs.declared.run.Run.{Run}
use Rattle.sn_model.specs.Run.{net_of}
use Rattle.sn_view.specs.View as view
use Rattle.sn_view.specs.View.{Entry, Local, View}
use Rattle.sn_view.specs.Next.{after, enabled, form_of, if_node, local_of, passed, send}
use Rattle.sn_node.specs.Answered.{form_at}
use Rattle.sn_node.specs.Local.{Gives, GivesAtMost, HasRoute, PassesOn, Stays, local_at}
use Rattle.sn_node.specs.Seen.{node_of, target_of}
use Rattle.sn_node.specs.declared.node.Made.{Made}
use Rattle.sn_node.specs.declared.node.Node.{Node}
use Rattle.sn_node.proofs.Events.{few_passed, gives_enabled, local_disabled, local_enabled, local_sends}
use Rattle.sn_graph.specs.Arena.{IsOf, view_of}
use Rattle.sn_graph.specs.declared.arena.Arena.{Arena}
use Rattle.sn_graph.specs.Grown.{IsOfRun}
use Rattle.sn_graph.specs.Local.{CountsAt, GivesAt, HasRouteAt}
use Rattle.sn_graph.proofs.Changes.{seen_none, unchanged}
use Rattle.sn_graph.proofs.Here.{here, holds_here, seen_alike, with_node}

-- the graph is of the run also where one node changes that is of it still
pub of_changed : (old new : Arena) (run : Run) (i : ℕ) (a b : Node) → i < length old.nodes.items → a ≡ get_or old.nodes.items i a → b.made ≡ a.made
    → new.run ≡ old.run → new.nodes.items ≡ set old.nodes.items i b → IsOf old run → IsOf new run
of_changed old new run i a b within read made same nodes is =
    let was : IsOfRun run a = subst (IsOfRun run) (sym read) (All-get_or (IsOfRun run) old.nodes.items i a within is.nodes) in
    record {
      made = ap (λ s. s.value) same ∙ is.made;
      nodes = All-same (IsOfRun run) new.nodes.items (set old.nodes.items i b) nodes
          (All-set (IsOfRun run) old.nodes.items i b (ap (λ (m : Made). m.run.value) made ∙ was) is.nodes);
    }

-- what is read at i, there
pub there_in : {X : Type 0} (xs : List X) (i : ℕ) (x : X) → i < length xs → x ≡ get_or xs i x → slice_get xs i ≡ Some x
there_in xs i x within read = slice_get_read xs (length xs) i x refl within read

-- arenas that are seen alike have as many nodes
pub still_within : (old new : Arena) (i : ℕ) → view_of new ≡ view_of old → i < length old.nodes.items → i < length new.nodes.items
still_within old new i alike within =
    let long : length new.nodes.items ≡ length old.nodes.items =
    sym (length-map new.nodes.items node_of) ∙ ap (λ (g : View). length g.nodes) alike ∙ length-map old.nodes.items node_of in
    omega (arith, long, within)

module _ (arena : Arena) (i : ℕ) (a : Node) (within : i < length arena.nodes.items) (read : a ≡ get_or arena.nodes.items i a) where
  pub gives_here : (es : List (Entry ModelItem)) → GivesAt i (view_of arena) es → Gives arena.run.value (form_of (view_of arena) (node_of a)) (node_of a) es
  gives_here es gives = subst (λ o. IfSome o (λ n. Gives (view_of arena).run (form_of (view_of arena) n) n es)) (here arena i a within read) gives

  pub given_enabled : (es : List (Entry ModelItem)) → GivesAt i (view_of arena) es → true ≡ enabled (view_of arena) (Local i)
  given_enabled es gives = sym (gives_enabled (view_of arena) i (node_of a) (here arena i a within read) es (gives_here es gives))

  sends_here : (b : Node) (es : List (Entry ModelItem)) → PassesOn arena.run.value (form_of (view_of arena) (node_of a)) (node_of a) (node_of b) es
      → after (view_of arena) (Local i) ≡ send (target_of a.made.goes) es (with_node arena i b)
  sends_here b es passes =
      local_sends (view_of arena) i (node_of a) (here arena i a within read) (node_of b) es passes
      ∙ ap (λ ns. send (target_of a.made.goes) es (record (view_of arena) { nodes = ns })) (sym (map-set node_of arena.nodes.items i b))

-- `e` is the node before room was made, `a` the node behind that
module _ (old new : Arena) (i : ℕ) (e a b : Node) (alike : view_of new ≡ view_of old)
    (was : i < length old.nodes.items) (before : e ≡ get_or old.nodes.items i e)
    (within : i < length new.nodes.items) (read : a ≡ get_or new.nodes.items i a) where
  pub passed_after : (es : List (Entry ModelItem)) → PassesOn new.run.value (form_of (view_of new) (node_of a)) (node_of a) (node_of b) es
      → send (target_of e.made.goes) es (with_node new i b) ≡ after (view_of old) (Local i)
  passed_after es passes =
      ap (λ (n : view.Node). send n.goes es (with_node new i b)) (seen_alike old new i e a alike (here old i e was before) (here new i a within read))
      ∙ sym (sends_here new i a within read b es passes)
      ∙ ap (λ g. after g (Local i)) alike

  pub given_after : (es : List (Entry ModelItem)) → GivesAt i (view_of old) es → node_of b ≡ passed (node_of a)
      → send (target_of e.made.goes) es (with_node new i b) ≡ after (view_of old) (Local i)
  given_after es gives popped =
      let now : GivesAt i (view_of new) es = subst (λ g. GivesAt i g es) (sym alike) gives in
      let step = (gives_here new i a within read es now).step in
      passed_after es (record {
        step = step ∙ ap (λ (n : view.Node). Some (record { state = n.state; entries = es })) (sym popped);
        kept = popped ∙ ap (λ s. record (passed (node_of a)) { state = s }) (ap (λ (n : view.Node). n.state) (sym popped));
      })

  module _ (run : Run) (made : new.run.value ≡ run) where
    -- the same of the run that is given to the node
    passes_here : (es : List (Entry ModelItem)) → PassesOn run (form_at (net_of run) a.made.path) (node_of a) (node_of b) es → PassesOn new.run.value (form_of (view_of new) (node_of a)) (node_of a) (node_of b) es
    passes_here es passes = subst (λ (r : Run). PassesOn r (form_at (net_of r) a.made.path) (node_of a) (node_of b) es) (sym made) passes

    stays_here : Stays run (form_at (net_of run) a.made.path) (node_of a) (node_of b) → Stays new.run.value (form_of (view_of new) (node_of a)) (node_of a) (node_of b)
    stays_here stays = subst (λ (r : Run). Stays r (form_at (net_of r) a.made.path) (node_of a) (node_of b)) (sym made) stays

    pub counted_after : (es : List (Entry ModelItem)) → PassesOn run (form_at (net_of run) a.made.path) (node_of a) (node_of b) es
        → send (target_of e.made.goes) es (with_node new i b) ≡ after (view_of old) (Local i)
    counted_after es passes = passed_after es (passes_here es passes)

    pub counted_enabled : (es : List (Entry ModelItem)) → PassesOn run (form_at (net_of run) a.made.path) (node_of a) (node_of b) es → true ≡ enabled (view_of old) (Local i)
    counted_enabled es passes =
        sym (local_enabled (view_of new) i (node_of a) (here new i a within read) (node_of b) es (passes_here es passes)) ∙ ap (λ g. enabled g (Local i)) alike

    pub stays_disabled : Stays run (form_at (net_of run) a.made.path) (node_of a) (node_of b) → false ≡ enabled (view_of old) (Local i)
    stays_disabled stays = sym (local_disabled (view_of new) i (node_of a) (here new i a within read) (node_of b) (stays_here stays)) ∙ ap (λ g. enabled g (Local i)) alike

    -- there is room for what is passed on, where there is for as much as was counted
    pub few_here : (most : ℕ) (es : List (Entry ModelItem)) → CountsAt i (view_of old) most → PassesOn run (form_at (net_of run) a.made.path) (node_of a) (node_of b) es → length es ≤ most
    few_here most es counts passes =
        let there = here new i a within read in
        let now : CountsAt i (view_of new) most = subst (λ g. CountsAt i g most) (sym alike) counts in
        let at : GivesAtMost new.run.value (form_of (view_of new) (node_of a)) (node_of a) most =
        subst (λ o. IfSome o (λ n. GivesAtMost (view_of new).run (form_of (view_of new) n) n most)) there now in
        few_passed (view_of new) i (node_of a) there most (node_of b) es at (passes_here es passes)

-- a node that is seen the same is nothing new
pub same_view : (old new : Arena) (i : ℕ) (a b : Node) → view_of new ≡ view_of old → a ≡ get_or new.nodes.items i a → node_of b ≡ node_of a → with_node new i b ≡ view_of old
same_view old new i a b alike read same = ap (λ ns. record (view_of new) { nodes = ns }) (unchanged node_of new.nodes.items i a b read same) ∙ alike

-- no node is there
pub none_there : (arena : Arena) (i : ℕ) → length arena.nodes.items ≤ i → false ≡ enabled (view_of arena) (Local i)
none_there arena i past = sym (ap (if_node (λ n. is_some (local_of (view_of arena) n)) false) (seen_none node_of arena.nodes.items i past))

-- what is asked of the node at i, and what it answers, are the view's
module _ (arena : Arena) (i : ℕ) (a : Node) (within : i < length arena.nodes.items) (read : a ≡ get_or arena.nodes.items i a) (run : Run) (of : IsOf arena run) where
  pub run_there : a.made.run.value ≡ run
  run_there = subst (IsOfRun run) (sym read) (All-get_or (IsOfRun run) arena.nodes.items i a within of.nodes)

  pub route_there : HasRouteAt i (view_of arena) → HasRoute run (form_at (net_of run) a.made.path) (node_of a)
  route_there routed =
      subst (λ (r : Run). HasRoute r (form_at (net_of r) a.made.path) (node_of a)) of.made
      (subst (λ o. IfSome o (λ n. HasRoute (view_of arena).run (form_of (view_of arena) n) n)) (here arena i a within read) routed)

  pub gives_there : (es : List (Entry ModelItem)) → Gives run (form_at (net_of run) a.made.path) (node_of a) es → GivesAt i (view_of arena) es
  gives_there es gives =
      holds_here (λ n. Gives (view_of arena).run (form_of (view_of arena) n) n es) arena i a within read
      (subst (λ (r : Run). Gives r (form_at (net_of r) a.made.path) (node_of a) es) (sym of.made) gives)

  pub counts_there : (most : ℕ) → GivesAtMost run (form_at (net_of run) a.made.path) (node_of a) most → CountsAt i (view_of arena) most
  counts_there most counts =
      holds_here (λ n. GivesAtMost (view_of arena).run (form_of (view_of arena) n) n most) arena i a within read
      (subst (λ (r : Run). GivesAtMost r (form_at (net_of r) a.made.path) (node_of a) most) (sym of.made) counts)

  pub nothing_there : local_at run (form_at (net_of run) a.made.path) (node_of a) ≡ None → false ≡ enabled (view_of arena) (Local i)
  nothing_there none =
      sym (ap (if_node (λ n. is_some (local_of (view_of arena) n)) false) (here arena i a within read)
      ∙ ap is_some (subst (λ (r : Run). local_at r (form_at (net_of r) a.made.path) (node_of a) ≡ None) (sym of.made) none))
