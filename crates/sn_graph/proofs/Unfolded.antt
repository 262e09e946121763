-- The event Unfold, in the view.
use Rattle.std.proofs.Common.{◌≡◌, ◌&&◌, not, ℕ, zero, suc, ◌+◌, ◌<◌, Bool, true, false, List, [], ◌∷◌, ◌++◌, map, length, get_or, set, take, refl, sym, ap, subst, ◌∙◌, arith, length-append}
use Rattle.std.specs.Prelude.{Option, Some, None, is_some}
use Rattle.std.specs.List.{All}
use Rattle.std.proofs.lemmas.List.{length-map, map-append}
use Rattle.std.proofs.lemmas.List.Elements.{All-append, All-get_or, All-set}
use Rattle.sn_net.specs.declared.routing.Key.{Key}
use Rattle.sn_net.specs.Dispatchers.{stream_key}
use Rattle.sn_model.specs.declared.run.Run.{Run}
use Rattle.sn_model.specs.Run.{depth_of, net_of}
use Rattle.sn_streams.specs.Keys.{Key as StreamKey}
use Rattle.sn_view.specs.View as view
use Rattle.sn_view.specs.View.{View, Unfold, changed_at}
use Rattle.sn_view.specs.Next.{adds_child, after, child_of, enabled, form_of, if_node, is_fork, may_unfold_then, new_nodes, node_at, routing_of, unfolded, unfolded_by}
use Rattle.sn_node.specs.Answered.{form_at}
use Rattle.sn_node.specs.Routes.{routing_at, GoesBy}
use Rattle.sn_node.specs.Seen.{node_of}
use Rattle.sn_node.specs.declared.node.Made.{Made}
use Rattle.sn_node.specs.declared.node.Node.{Node}
use Rattle.sn_graph.specs.Arena.{view_of}
use Rattle.sn_graph.specs.Grown.{IsOfRun}
use Rattle.sn_graph.specs.Unfolds.{adopted}
use Rattle.sn_graph.specs.declared.arena.Arena.{Arena}
use Rattle.sn_graph.proofs.Changes.{changes}
use Rattle.sn_graph.proofs.Here.{same_form}

module _ (arena : Arena) (run : Run) (i : ℕ) (a : Node) (made : arena.run.value ≡ run) (there : node_at i (view_of arena) ≡ Some (node_of a)) where
  may : Option view.Node → Bool
  may o = if_node (λ n. may_unfold_then n (routing_of (view_of arena) n)) false o

  pub routing_here : routing_of (view_of arena) (node_of a) ≡ routing_at (form_at (net_of run) a.made.path) (node_of a)
  routing_here = ap (λ form. routing_at form (node_of a)) (same_form arena run a made)

  enabled_here : enabled (view_of arena) (Unfold i) ≡ may_unfold_then (node_of a) (routing_at (form_at (net_of run) a.made.path) (node_of a))
  unfolding may
  enabled_here = ap may there ∙ ap (may_unfold_then (node_of a)) routing_here

  pub no_routing : routing_at (form_at (net_of run) a.made.path) (node_of a) ≡ None → enabled (view_of arena) (Unfold i) ≡ false
  no_routing none = enabled_here ∙ ap (may_unfold_then (node_of a)) none

  by_key : (k : Key) → GoesBy (routing_at (form_at (net_of run) a.made.path) (node_of a)) k
      → enabled (view_of arena) (Unfold i) ≡ (is_fork (node_of a).state && not (is_some (child_of (node_of a).children (stream_key k))))
  by_key k goes =
      enabled_here ∙ ap (may_unfold_then (node_of a)) goes.is
      ∙ ap (λ key. is_fork (node_of a).state && not (is_some (child_of (node_of a).children key))) goes.key

  pub no_fork : (k : Key) → GoesBy (routing_at (form_at (net_of run) a.made.path) (node_of a)) k → is_fork (node_of a).state ≡ false → enabled (view_of arena) (Unfold i) ≡ false
  no_fork k goes not_fork = by_key k goes ∙ ap (λ b. b && not (is_some (child_of (node_of a).children (stream_key k)))) not_fork

  pub has_child : (k : Key) → GoesBy (routing_at (form_at (net_of run) a.made.path) (node_of a)) k → is_fork (node_of a).state ≡ true
      → is_some (child_of (node_of a).children (stream_key k)) ≡ true → enabled (view_of arena) (Unfold i) ≡ false
  has_child k goes fork some =
      by_key k goes ∙ ap (λ b. b && not (is_some (child_of (node_of a).children (stream_key k)))) fork ∙ ap (λ b. true && not b) some

  pub lacks_child : (k : Key) → GoesBy (routing_at (form_at (net_of run) a.made.path) (node_of a)) k → is_fork (node_of a).state ≡ true
      → child_of (node_of a).children (stream_key k) ≡ None → enabled (view_of arena) (Unfold i) ≡ true
  lacks_child k goes fork none =
      by_key k goes ∙ ap (λ b. b && not (is_some (child_of (node_of a).children (stream_key k)))) fork ∙ ap (λ c. true && not (is_some c)) none

  -- with the new child's nodes it is what comes after
  pub adopted_after : (k : Key) (more : List view.Node) → GoesBy (routing_at (form_at (net_of run) a.made.path) (node_of a)) k
      → more ≡ new_nodes (depth_of run) (form_at (net_of run) a.made.path) (stream_key k) i (node_of a) (length arena.nodes.items)
      → adopted i (stream_key k) more (view_of arena) ≡ after (view_of arena) (Unfold i)
  adopted_after k more goes grown =
      let g : View = view_of arena in
      let sk : StreamKey = stream_key k in
      let F : Option view.Node → View = λ o. if_node (λ n. unfolded i n (routing_of (view_of arena) n) (view_of arena)) (view_of arena) o in
      let count : length g.nodes ≡ length arena.nodes.items = length-map arena.nodes.items node_of in
      let what : after (view_of arena) (Unfold i) ≡ unfolded_by i (node_of a) sk (view_of arena) =
      ap F there ∙ ap (λ r. unfolded i (node_of a) r (view_of arena)) (routing_here ∙ goes.is) ∙ ap (λ j. unfolded_by i (node_of a) j (view_of arena)) goes.key in
      let nodes : more ≡ new_nodes (depth_of arena.run.value) (form_of (view_of arena) (node_of a)) sk i (node_of a) (length g.nodes) =
      grown
      ∙ ap (λ (r : Run). new_nodes (depth_of r) (form_at (net_of run) a.made.path) sk i (node_of a) (length arena.nodes.items)) (sym made)
      ∙ ap (λ form. new_nodes (depth_of arena.run.value) form sk i (node_of a) (length arena.nodes.items)) (sym (same_form arena run a made))
      ∙ ap (λ n. new_nodes (depth_of arena.run.value) (form_of (view_of arena) (node_of a)) sk i (node_of a) n) (sym count) in
      ap (λ ns. adopted i sk ns (view_of arena)) nodes ∙ sym what

changed_before : {X : Type 0} (f : X → X) (xs ys : List X) (i : ℕ) → i < length xs → changed_at i f (xs ++ ys) ≡ changed_at i f xs ++ ys
changed_before f [] ys i within = absurd (omega (arith, within))
changed_before f (x ∷ xs) ys zero within = refl
changed_before f (x ∷ xs) ys (suc i) within = ap (λ zs. x ∷ zs) (changed_before f xs ys i (omega (arith, within)))

-- a child is added, and nodes are put behind the others
pub adopts : (old more : List Node) (i : ℕ) (m b : Node) (k : Key) (entry : ℕ) → i < length old → m ≡ get_or (old ++ more) i m → node_of b ≡ adds_child (stream_key k) entry (node_of m) → entry ≡ length old
    → map node_of (set (old ++ more) i b) ≡ changed_at i (adds_child (stream_key k) (length (map node_of old))) (map node_of old) ++ map node_of more
adopts old more i m b k entry within read added last =
    let count : length (map node_of old) ≡ length old = length-map old node_of in
    changes node_of (adds_child (stream_key k) entry) (old ++ more) i m b read added
    ∙ ap (changed_at i (adds_child (stream_key k) entry)) (map-append node_of old more)
    ∙ changed_before (adds_child (stream_key k) entry) (map node_of old) (map node_of more) i (omega (arith, within, count))
    ∙ ap (λ n. changed_at i (adds_child (stream_key k) n) (map node_of old) ++ map node_of more) (last ∙ sym count)

-- and all are of the run
pub adopts_of : (run : Run) (old more : List Node) (i : ℕ) (m b : Node) → i < length old → m ≡ get_or (old ++ more) i m → b.made ≡ m.made
    → All (IsOfRun run) more → All (IsOfRun run) old → All (IsOfRun run) (set (old ++ more) i b)
adopts_of run old more i m b within read made all of =
    let long : length (old ++ more) ≡ length old + length more = length-append old more in
    let both : All (IsOfRun run) (old ++ more) = All-append (IsOfRun run) old more of all in
    All-set (IsOfRun run) (old ++ more) i b
    (ap (λ (d : Made). d.run.value) made ∙ subst (IsOfRun run) (sym read) (All-get_or (IsOfRun run) (old ++ more) i m (omega (arith, within, long)) both)) both

first_part : {X : Type 0} (xs ys : List X) → take (length xs) (xs ++ ys) ≡ xs
first_part [] ys = refl
first_part (x ∷ xs) ys = ap (λ zs. x ∷ zs) (first_part xs ys)

pub is_none : {X : Type 0} (o : Option X) → is_some o ≡ false → o ≡ None
is_none None is = refl
is_none (Some x) is = cc

-- cut back to the others, they are as they were
pub given_up : {Y : Type 0} (v : Node → Y) (old more : List Node) (i : ℕ) (m b : Node) → m ≡ get_or (old ++ more) i m → v b ≡ v m → map v (take (length old) (set (old ++ more) i b)) ≡ map v old
given_up v [] more i m b read same = refl
given_up v (x ∷ xs) more zero m b read same = ap (λ y. y ∷ map v (take (length xs) (xs ++ more))) (same ∙ ap v read) ∙ ap (λ (ys : List Node). v x ∷ map v ys) (first_part xs more)
given_up v (x ∷ xs) more (suc i) m b read same = ap (λ ys. v x ∷ ys) (given_up v xs more i m b read same)
