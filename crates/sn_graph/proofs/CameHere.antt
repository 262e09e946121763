-- What the events ask of a graph that came to be by events.
use Rattle.std.proofs.Common.{◌≡◌, ℕ, zero, suc, ◌<◌, ◌≤◌, List, [], ◌∷◌, map, refl, ap, arith}
use Rattle.std.specs.Prelude.{slice_get, Option, Some, None, IfSome, unwrap_or}
use Rattle.std.specs.Option.{option_map}
use Rattle.sn_model.specs.declared.run.Run.{Run}
use Rattle.sn_view.specs.Chains.{Comes}
use Rattle.sn_view.specs.Epochs.{Epochs}
use Rattle.sn_view.specs.Next.{node_at}
use Rattle.sn_view.specs.Routed.{BoxesAreFed}
use Rattle.sn_view.specs.View.{State, Alone, Cell, InTurn, Freely, ToChild, ToNode}
use Rattle.sn_view.proofs.Came.{came_apart_doors, came_apart_sends, came_fed, came_marks, came_own_first, came_routed, came_routed_local}
use Rattle.sn_node.specs.RoutesFreely.{marks_below}
use Rattle.sn_node.specs.Seen.{node_of, target_of}
use Rattle.sn_node.specs.declared.node.Node.{Node}
use Rattle.sn_node.specs.declared.node.Target.{Target}
use Rattle.sn_node.specs.declared.node.Target.TheVariants as target
use Rattle.sn_graph.specs.Arena.{view_of}
use Rattle.sn_graph.specs.Local.{HasRouteAt}
use Rattle.sn_graph.specs.Room.{written}
use Rattle.sn_graph.specs.Ways.{ComesInElsewhere, IsRoutedAt, OwnIsFirst}
use Rattle.sn_graph.specs.declared.arena.Arena.{Arena}

if_some : {X : Type 0} (P : X → Type 0) (o : Option X) → ((x : X) → o ≡ Some x → P x) → IfSome o P
if_some P None each = tt
if_some P (Some x) each = each x refl

seen_at : (xs : List Node) (i : ℕ) (n : Node) → slice_get xs i ≡ Some n → slice_get (map node_of xs) i ≡ Some (node_of n)
seen_at [] i n is = absurd (cc)
seen_at (x ∷ xs) zero n is = ap (option_map node_of) is
seen_at (x ∷ xs) (suc i) n is = seen_at xs i n is

not_written : (i : ℕ) (t : Target) → ((target_of t ≡ ToNode i) → ⊥) → ((c : ℕ) → (target_of t ≡ ToChild i c) → ⊥) → (written t ≡ Some i) → ⊥
not_written i target.Out node child is = cc
not_written i (target.Node j) node child is = let first : Option ℕ → ℕ = λ o. unwrap_or o j in node (ap (λ k. ToNode k) (ap first is))
not_written i (target.Child j c) node child is = let first : Option ℕ → ℕ = λ o. unwrap_or o j in child c (ap (λ k. ToChild k c) (ap first is))

marks_few : (s : State) (applied : ℕ) → applied < 4611686018427387904 → ((e : Epochs) → s ≡ Freely e → e.input ≤ applied) → marks_below 4611686018427387904 s
marks_few Alone applied few each = tt
marks_few (Cell patterns cell) applied few each = tt
marks_few (InTurn ds) applied few each = tt
marks_few (Freely e) applied few each = let le : e.input ≤ applied = each e refl in omega (arith, le, few)

module _ (run : Run) (arena : Arena) (came : ∥ Comes run (view_of arena) ∥₁) where
  -- a node does not send to itself
  pub came_apart : (i : ℕ) (n : Node) → slice_get arena.nodes.items i ≡ Some n → (written n.made.goes ≡ Some i) → ⊥
  came_apart i n there =
      let at : slice_get (view_of arena).nodes i ≡ Some (node_of n) = seen_at arena.nodes.items i n there in
      not_written i n.made.goes
      ((came_apart_sends run (view_of arena) came run.formed i (node_of n) at 0).0)
      (λ c. (came_apart_sends run (view_of arena) came run.formed i (node_of n) at c).1)

  pub came_has_route : (i : ℕ) → HasRouteAt i (view_of arena)
  came_has_route i = if_some _ (node_at i (view_of arena)) (λ n there. came_routed_local run (view_of arena) came run.formed run.typed i n there)

  pub came_is_routed : (i : ℕ) → IsRoutedAt i (view_of arena)
  came_is_routed i = if_some _ (node_at i (view_of arena)) (λ n there. came_routed run (view_of arena) came run.formed run.typed i n there)

  pub came_few : (i : ℕ) → arena.applied < 4611686018427387904 → IfSome (node_at i (view_of arena)) (λ n. marks_below 4611686018427387904 n.state)
  came_few i few =
      if_some _ (node_at i (view_of arena)) (λ n there. marks_few n.state arena.applied few (λ e st. came_marks run (view_of arena) came i n e there st))

  pub came_first : (i : ℕ) → OwnIsFirst i (view_of arena)
  came_first i n there fork = came_own_first run (view_of arena) came run.formed i n there fork

  pub came_elsewhere : (i : ℕ) → ComesInElsewhere i (view_of arena)
  came_elsewhere i n c child there at = came_apart_doors run (view_of arena) came run.formed i n there c child at

  pub came_boxes_fed : BoxesAreFed (view_of arena)
  came_boxes_fed = came_fed run (view_of arena) came run.formed run.typed
