use Rattle.std.proofs.Common.{sym, ◌∙◌}
use Rattle.sn_net.specs.Dispatchers.{stream_key}
use Rattle.sn_node.specs.Seen.{node_of}
use Rattle.sn_node.proofs.Served.{takes_none, group_unmoved}
use Rattle.sn_node.proofs.node.Node.merge_group.Goals as goal

pub returns-in-None-clause-merged : goal.returns-in-None-clause-merged
returns-in-None-clause-merged c =
    let none = c.in-None.ensures.first in
    record {
      none = group_unmoved (node_of c.args.self.now) c.args.c (stream_key c.in-Some.key) c.requires.state c.requires.child (sym c.in-Some.ensures) none;
      same = c.in-None.ensures.rest ∙ takes_none (node_of c.args.self.now) c.args.c none;
    }
