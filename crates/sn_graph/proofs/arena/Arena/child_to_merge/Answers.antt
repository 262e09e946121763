use Rattle.std.proofs.Common.{◌<◌, length, rules, arith}
use Rattle.sn_node.specs.Seen.{node_of}
use Rattle.sn_graph.specs.Arena.{view_of}
use Rattle.sn_graph.proofs.Here.{here}
use Rattle.sn_graph.proofs.Nexts.{merges_none, merges_some}
use Rattle.sn_graph.proofs.arena.Arena.child_to_merge.Goals as goal

pub next_merge-requires : goal.next_merge-requires
next_merge-requires c =
    let inside : c.args.i < length c.args.self.now.nodes.items = search (rules, arith) in
    c.requires (node_of c.index.result.now) (here c.args.self.now c.args.i c.index.result.now inside c.index.ensures)

pub returns-clause-some : goal.returns-clause-some
returns-clause-some c =
    let inside : c.args.i < length c.args.self.now.nodes.items = search (rules, arith) in
    merges_some (view_of c.args.self.now) c.args.i (node_of c.index.result.now) (here c.args.self.now c.args.i c.index.result.now inside c.index.ensures) c.next_merge.result c.next_merge.ensures.some

pub returns-clause-none : goal.returns-clause-none
returns-clause-none c =
    let inside : c.args.i < length c.args.self.now.nodes.items = search (rules, arith) in
    merges_none (view_of c.args.self.now) c.args.i (node_of c.index.result.now) (here c.args.self.now c.args.i c.index.result.now inside c.index.ensures) c.next_merge.result c.next_merge.ensures.none
