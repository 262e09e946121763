use Rattle.std.proofs.Common.{◌≡◌, ◌++◌, List, set, take, arith, rules, length, map, sym, ap, subst, ◌∙◌, get_or}
use Rattle.std.specs.List.{All}
use Rattle.std.proofs.lemmas.List.Elements.{All-same, All-take}
use Rattle.sn_view.specs.Next.{adds_child}
use Rattle.sn_view.specs.View.{changed_at}
use Rattle.sn_node.specs.declared.node.Node.{Node}
use Rattle.sn_net.specs.Dispatchers.{stream_key}
use Rattle.sn_node.specs.Seen.{node_of}
use Rattle.sn_graph.specs.Arena.{view_of}
use Rattle.sn_graph.specs.Grown.{IsOfRun}
use Rattle.sn_graph.proofs.Unfolded.{adopts, adopts_of, given_up}
use Rattle.sn_graph.proofs.arena.Arena.adopt.Goals as goal

pub returns-in-Ok-clause-ok : goal.returns-in-Ok-clause-ok
returns-in-Ok-clause-ok c =
    let joined = c.in_ok-append.ensures.items in
    ap (λ ns. record (view_of c.args.self.now) { nodes = ns })
    (subst (λ (all : List Node). map node_of (set all c.args.i c.add_child.new.self) ≡ changed_at c.args.i (adds_child (stream_key c.args.key) (length (map node_of c.args.self.now.nodes.items))) (map node_of c.args.self.now.nodes.items) ++ map node_of c.args.nodes.items)
    (sym joined)
    (adopts c.args.self.now.nodes.items c.args.nodes.items c.args.i c.index_mut.result.now c.add_child.new.self c.args.key c.len-entry.result c.requires.within
    (c.index_mut.ensures.value ∙ ap (λ (all : List Node). get_or all c.args.i c.index_mut.result.now) joined) c.in-Ok.ensures.ok (search (rules, arith))))

pub returns-in-Ok-clause-of : goal.returns-in-Ok-clause-of
returns-in-Ok-clause-of c = λ run all of.
    let joined = c.in_ok-append.ensures.items in
    record {
      made = of.made;
      nodes =
          subst (λ (ns : List Node). All (IsOfRun run) (set ns c.args.i c.add_child.new.self)) (sym joined)
          (adopts_of run c.args.self.now.nodes.items c.args.nodes.items c.args.i c.index_mut.result.now c.add_child.new.self c.requires.within
          (c.index_mut.ensures.value ∙ ap (λ (ns : List Node). get_or ns c.args.i c.index_mut.result.now) joined) c.in-Ok.ensures.made all of.nodes);
    }

pub returns-clause-err : goal.returns-clause-err
returns-clause-err c =
    let joined = c.in_ok-append.ensures.items in
    ap (λ ns. record (view_of c.args.self.now) { nodes = ns })
    (ap (map node_of) c.truncate.ensures.items
    ∙ ap (λ n. map node_of (take n (set c.append.new.self.items c.args.i c.add_child.new.self))) (search (rules, arith))
    ∙ subst (λ (ns : List Node). map node_of (take (length c.args.self.now.nodes.items) (set ns c.args.i c.add_child.new.self)) ≡ map node_of c.args.self.now.nodes.items) (sym joined)
    (given_up node_of c.args.self.now.nodes.items c.args.nodes.items c.args.i c.index_mut.result.now c.add_child.new.self
    (c.index_mut.ensures.value ∙ ap (λ (ns : List Node). get_or ns c.args.i c.index_mut.result.now) joined) c.in-Err.ensures.err))

pub returns-clause-of : goal.returns-clause-of
returns-clause-of c = λ run all of.
    let joined = c.in_ok-append.ensures.items in
    record {
      made = of.made;
      nodes =
          All-same (IsOfRun run) c.truncate.new.self.items (take c.len-entry.result (set c.append.new.self.items c.args.i c.add_child.new.self)) c.truncate.ensures.items
          (All-take (IsOfRun run) c.len-entry.result (set c.append.new.self.items c.args.i c.add_child.new.self)
          (subst (λ (ns : List Node). All (IsOfRun run) (set ns c.args.i c.add_child.new.self)) (sym joined)
          (adopts_of run c.args.self.now.nodes.items c.args.nodes.items c.args.i c.index_mut.result.now c.add_child.new.self c.requires.within
          (c.index_mut.ensures.value ∙ ap (λ (ns : List Node). get_or ns c.args.i c.index_mut.result.now) joined) c.in-Err.ensures.made all of.nodes)));
    }
