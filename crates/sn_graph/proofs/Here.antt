-- The node at a number, in code and in the view.
use Rattle.std.proofs.Common.{arith, ◌≡◌, ℕ, zero, suc, ◌<◌, ◌≤◌, ◌&&◌, false, List, [], ◌∷◌, subst, map, length, get_or, set, refl, sym, ap, ◌∙◌}
use Rattle.std.specs.Prelude.{slice_get, IfSome, Option, None, Some, is_some, unwrap_or}
use Rattle.std.specs.declared.snapshot.Snapshot.{Snapshot}
use Rattle.std.proofs.lemmas.List.{length-map}
use Rattle.std.proofs.lemmas.List.Elements.{All-get_or, All-same, All-set}
use Rattle.sn_model.specs.declared.run.Run.{Run}
use Rattle.sn_view.specs.View as view
use Rattle.sn_view.specs.View.{Route, View}
use Rattle.sn_view.specs.Next.{Routing, enabled, form_of, if_node, is_fork, may_route, needs, node_at, routing_of}
use Rattle.sn_node.specs.Answered.{form_at}
use Rattle.sn_node.specs.Seen.{node_of}
use Rattle.sn_node.specs.declared.node.Made.{Made}
use Rattle.sn_node.specs.declared.node.Node.{Node}
use Rattle.sn_model.specs.Run.{net_of}
use Rattle.sn_graph.specs.Arena.{IsOf, view_of}
use Rattle.sn_graph.specs.Grown.{IsOfRun}
use Rattle.sn_graph.specs.declared.arena.Arena.{Arena}
use Rattle.sn_graph.proofs.Changes.{seen_get, seen_none}

-- what is read there is seen there
pub here : (arena : Arena) (i : ℕ) (a : Node) → i < length arena.nodes.items → a ≡ get_or arena.nodes.items i a → node_at i (view_of arena) ≡ Some (node_of a)
here arena i a within read = seen_get node_of arena.nodes.items i a within read

pub holds_here : (P : view.Node → Type 0) (arena : Arena) (i : ℕ) (a : Node) → i < length arena.nodes.items → a ≡ get_or arena.nodes.items i a → P (node_of a) → IfSome (node_at i (view_of arena)) P
holds_here P arena i a within read p = subst (λ o. IfSome o P) (sym (here arena i a within read)) p

-- no dispatcher is there
pub no_route_past : (arena : Arena) (i : ℕ) → length arena.nodes.items ≤ i → false ≡ enabled (view_of arena) (Route i)
no_route_past arena i past = sym (ap (if_node (λ n. may_route n (routing_of (view_of arena) n)) false) (seen_none node_of arena.nodes.items i past))

pub no_route_here : (arena : Arena) (i : ℕ) (a : Node) → i < length arena.nodes.items → a ≡ get_or arena.nodes.items i a → is_fork (node_of a).state ≡ false → false ≡ enabled (view_of arena) (Route i)
no_route_here arena i a within read other =
    sym (ap (if_node (λ n. may_route n (routing_of (view_of arena) n)) false) (here arena i a within read) ∙ by (routing_of (view_of arena) (node_of a)))
  where
    by : (o : Option Routing) → may_route (node_of a) o ≡ false
    by None = refl
    by (Some r) = ap (λ b. b && is_some (needs (node_of a) r)) other

-- two arenas that are seen alike have the same node there
pub seen_alike : (old new : Arena) (i : ℕ) (a b : Node) → view_of new ≡ view_of old → node_at i (view_of old) ≡ Some (node_of a) → node_at i (view_of new) ≡ Some (node_of b) → node_of a ≡ node_of b
seen_alike old new i a b alike at_a at_b =
    let first : Option view.Node → view.Node = λ o. unwrap_or o (node_of a) in
    ap first (sym at_a ∙ sym (ap (node_at i) alike) ∙ at_b)

-- the arena with the node there replaced
abbrev pub with_node : Arena → ℕ → Node → View
with_node arena i b = record (view_of arena) { nodes = map node_of (set arena.nodes.items i b) }

-- the part of the network that the node is
pub same_form : (arena : Arena) (run : Run) (a : Node) → arena.run.value ≡ run → form_of (view_of arena) (node_of a) ≡ form_at (net_of run) a.made.path
same_form arena run a made = ap (λ (r : Run). form_at (net_of r) a.made.path) made

pub get_read : {X : Type 0} (xs : List X) (i : ℕ) (a : X) → i < length xs → a ≡ get_or xs i a → slice_get xs i ≡ Some a
get_read [] i a within read = absurd (omega (arith, within))
get_read (x ∷ xs) zero a within read = ap (λ y. Some y) (sym read)
get_read (x ∷ xs) (suc i) a within read = get_read xs i a (omega (arith, within)) read

-- arenas that are seen alike have as many nodes
pub seen_long : (old new : Arena) → view_of new ≡ view_of old → length new.nodes.items ≡ length old.nodes.items
seen_long old new alike = sym (length-map new.nodes.items node_of) ∙ ap (λ (g : View). length g.nodes) alike ∙ length-map old.nodes.items node_of

pub still_within : (old new : Arena) (i : ℕ) → view_of new ≡ view_of old → i < length old.nodes.items → i < length new.nodes.items
still_within old new i alike within = let long = seen_long old new alike in omega (arith, long, within)

-- a node that changes is still of the run
pub of_set : (old new : Arena) (run : Run) (i : ℕ) (a b : Node) → new.run ≡ old.run → new.nodes.items ≡ set old.nodes.items i b → i < length old.nodes.items → a ≡ get_or old.nodes.items i a
    → b.made ≡ a.made → IsOf old run → IsOf new run
of_set old new run i a b same nodes within read made of = record {
  made = ap (λ (r : Snapshot Run). r.value) same ∙ of.made;
  nodes =
      All-same (IsOfRun run) new.nodes.items (set old.nodes.items i b) nodes
      (All-set (IsOfRun run) old.nodes.items i b
      (ap (λ (m : Made). m.run.value) made ∙ subst (IsOfRun run) (sym read) (All-get_or (IsOfRun run) old.nodes.items i a within of.nodes)) of.nodes);
}
