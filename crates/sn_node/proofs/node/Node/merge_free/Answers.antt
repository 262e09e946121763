use Rattle.std.proofs.Common.{sym, ◌∙◌}
use Rattle.std.specs.Prelude.{None}
use Rattle.sn_node.specs.Seen.{node_of}
use Rattle.sn_node.proofs.Served.{takes_none, free_by}
use Rattle.sn_node.proofs.node.Node.merge_free.Goals as goal

pub returns-in-None-clause-merged : goal.returns-in-None-clause-merged
returns-in-None-clause-merged c =
    let none = c.in-None.ensures.first in
    let w = free_by (node_of c.args.self.now) c.args.c None (sym c.may_take.ensures ∙ c.if-not-may_take.false) none in
    record {
      none = w.2;
      same = c.in-None.ensures.rest ∙ takes_none (node_of c.args.self.now) c.args.c none;
    }
