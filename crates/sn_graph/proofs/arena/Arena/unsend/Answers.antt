use Rattle.std.proofs.Common.{arith, rules, ap}
use Rattle.sn_node.specs.Seen.{node_of}
use Rattle.sn_node.specs.Unwaited.{without_last}
use Rattle.sn_graph.specs.Arena.{view_of}
use Rattle.sn_graph.proofs.Changes.{changes, seen_past}
use Rattle.sn_graph.proofs.arena.Arena.unsend.Goals as goal

pub returns-then-entry-len-clause-view : goal.returns-then-entry-len-clause-view
returns-then-entry-len-clause-view c =
    ap (λ ns. record (view_of c.args.self.now) { nodes = ns })
    (changes node_of without_last c.args.self.now.nodes.items c.args.entry c.index_mut.result.now c.unwait.new.self c.index_mut.ensures.value c.unwait.ensures.rest)

pub returns-else-entry-len-clause-view : goal.returns-else-entry-len-clause-view
returns-else-entry-len-clause-view c =
    ap (λ ns. record (view_of c.args.self.now) { nodes = ns })
    (seen_past node_of without_last c.args.self.now.nodes.items c.args.entry (search (rules, arith)))
