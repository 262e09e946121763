use Rattle.std.proofs.Common.{◌<◌, length, arith, rules, refl, sym, subst, ◌∙◌}
use Rattle.sn_node.specs.Child.{child_of}
use Rattle.sn_node.specs.Routes.{GoesBy}
use Rattle.sn_node.specs.Seen.{node_of}
use Rattle.sn_graph.specs.Arena.{view_of}
use Rattle.sn_graph.proofs.Changes.{seen_get}
use Rattle.sn_graph.proofs.Here.{here}
use Rattle.sn_graph.proofs.Turning.{no_way_child, no_way_fork, no_way_routing}
use Rattle.sn_graph.proofs.Unfolded.{routing_here}
use Rattle.sn_graph.proofs.arena.Arena.way.Goals as goal

pub returns : goal.returns
returns c =
    let a = c.index-node.result.now in
    let inside : c.args.i < length c.args.self.now.nodes.items = search (rules, arith) in
    let there = here c.args.self.now c.args.i a inside c.index-node.ensures in
    record {
      node = node_of a;
      there = there;
      goes = subst (λ o. GoesBy o c.in-Some.key) (sym (routing_here c.args.self.now c.args.run.now c.args.i a c.requires.made there)) c.in-Some.ensures;
      fork = sym c.is_fork.ensures ∙ c.if-not-is_fork.false;
      number = sym c.in-Some-number_of.ensures.number;
      child = child_of c.index.result.now;
      at = seen_get child_of a.children.list.items c.in-Some-number_of.child c.index.result.now c.in-Some-number_of.ensures.within c.index.ensures;
      entry = refl;
    }

pub returns-in_default-number_of : goal.returns-in_default-number_of
returns-in_default-number_of c =
    let a = c.index-node.result.now in
    let inside : c.args.i < length c.args.self.now.nodes.items = search (rules, arith) in
    let there = here c.args.self.now c.args.i a inside c.index-node.ensures in
    no_way_child (view_of c.args.self.now) c.args.i (node_of a) there c.in-Some.key
    (subst (λ o. GoesBy o c.in-Some.key) (sym (routing_here c.args.self.now c.args.run.now c.args.i a c.requires.made there)) c.in-Some.ensures)
    (sym c.in_default-number_of.ensures.number)

pub returns-then-not-is_fork : goal.returns-then-not-is_fork
returns-then-not-is_fork c =
    let a = c.index-node.result.now in
    let inside : c.args.i < length c.args.self.now.nodes.items = search (rules, arith) in
    no_way_fork (view_of c.args.self.now) c.args.i (node_of a) (here c.args.self.now c.args.i a inside c.index-node.ensures)
    (sym c.is_fork.ensures ∙ c.if-not-is_fork.true)

pub returns-in_default : goal.returns-in_default
returns-in_default c =
    let a = c.index-node.result.now in
    let inside : c.args.i < length c.args.self.now.nodes.items = search (rules, arith) in
    let there = here c.args.self.now c.args.i a inside c.index-node.ensures in
    no_way_routing (view_of c.args.self.now) c.args.i (node_of a) there
    (routing_here c.args.self.now c.args.run.now c.args.i a c.requires.made there ∙ c.in_default.ensures)
