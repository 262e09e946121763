-- New nodes of a child that is lacking.
use Rattle.std.proofs.Common.{◌≡◌, ℕ, zero, suc, true, ◌<◌, List, [], ◌∷◌, ◌++◌, map, length, get_or, sym, ap, subst, ◌∙◌, arith}
use Rattle.std.specs.Prelude.{None, Option, Some, slice_get, unwrap_or}
use Rattle.std.specs.List.{All}
use Rattle.std.proofs.lemmas.List.Elements.{All-nil, All-same}
use Rattle.sn_net.specs.declared.routing.Key.{Key}
use Rattle.sn_net.specs.Dispatchers.{stream_key}
use Rattle.sn_model.specs.declared.run.Run.{Run}
use Rattle.sn_model.specs.Run.{depth_of, net_of}
use Rattle.sn_view.specs.View as view
use Rattle.sn_view.specs.View.{Unfold}
use Rattle.sn_view.specs.Next.{after, child_of, enabled, new_nodes}
use Rattle.sn_view.proofs.Lists.{there-map}
use Rattle.sn_node.specs.Answered.{form_at}
use Rattle.sn_node.specs.Seen.{node_of}
use Rattle.sn_node.specs.declared.node.Node.{Node}
use Rattle.sn_graph.specs.Arena.{IsOf, view_of}
use Rattle.sn_graph.specs.Grown.{IsOfRun, Puts}
use Rattle.sn_graph.specs.Unfolds.{Lacks, adopted}
use Rattle.sn_graph.specs.declared.arena.Arena.{Arena}
use Rattle.sn_graph.specs.declared.grow.NewNodes.{NewNodes}
use Rattle.sn_graph.proofs.Here.{get_read}
use Rattle.sn_graph.proofs.Unfolded.{adopted_after, lacks_child}

within_some : {X : Type 0} (xs : List X) (i : ℕ) (x : X) → slice_get xs i ≡ Some x → i < length xs
within_some [] i x there = cc
within_some (y ∷ ys) zero x there = omega arith
within_some (y ∷ ys) (suc i) x there = let below : i < length ys = within_some ys i x there in omega (arith, below)

module _ (run : Run) (more : List view.Node) (old new : NewNodes) (none : old.nodes.items ≡ []) (puts : Puts run more old new) where
  pub fresh_all : All (IsOfRun run) new.nodes.items
  fresh_all = puts.of (All-same (IsOfRun run) old.nodes.items [] none (All-nil (IsOfRun run)))

  pub fresh_nodes : map node_of new.nodes.items ≡ more
  fresh_nodes = puts.nodes ∙ ap (λ ns. map node_of ns ++ more) none

module _ (arena : Arena) (run : Run) (i : ℕ) (key : Key) (of : IsOf arena run) (lacks : Lacks arena run i key) where
  pub lacks_enabled : true ≡ enabled (view_of arena) (Unfold i)
  lacks_enabled =
      sym (lacks_child arena run i lacks.node of.made (there-map node_of arena.nodes.items i lacks.node lacks.there) key lacks.goes lacks.fork lacks.none)

  pub lacks_within : i < length arena.nodes.items
  lacks_within = within_some arena.nodes.items i lacks.node lacks.there

  pub lacks_none : (n : Node) → slice_get arena.nodes.items i ≡ Some n → child_of (node_of n).children (stream_key key) ≡ None
  lacks_none n there =
      let first : Option Node → Node = λ o. unwrap_or o n in
      subst (λ (m : Node). child_of (node_of m).children (stream_key key) ≡ None) (ap first (sym lacks.there ∙ there)) lacks.none

  module _ (a : Node) (within : i < length arena.nodes.items) (read : a ≡ get_or arena.nodes.items i a) where
    same : lacks.node ≡ a
    same =
        let first : Option Node → Node = λ o. unwrap_or o a in
        ap first (sym lacks.there ∙ get_read arena.nodes.items i a within read)

    pub lacks_after : (fresh : List Node) (at : ℕ) → map node_of fresh ≡ new_nodes (depth_of run) (form_at (net_of run) a.made.path) (stream_key key) i (node_of a) at → at ≡ length arena.nodes.items
        → adopted i (stream_key key) (map node_of fresh) (view_of arena) ≡ after (view_of arena) (Unfold i)
    lacks_after fresh at grown last =
        adopted_after arena run i lacks.node of.made (there-map node_of arena.nodes.items i lacks.node lacks.there) key (map node_of fresh) lacks.goes
        (grown
        ∙ ap (λ (n : Node). new_nodes (depth_of run) (form_at (net_of run) n.made.path) (stream_key key) i (node_of n) at) (sym same)
        ∙ ap (λ n. new_nodes (depth_of run) (form_at (net_of run) lacks.node.made.path) (stream_key key) i (node_of lacks.node) n) last)
