use Rattle.std.proofs.Common.{arith, rules}
use Rattle.sn_graph.proofs.Doors.{entries_more}
use Rattle.sn_graph.proofs.broadcast.entries_of.Goals as goal

pub loop-c-preserved : goal.loop-c-preserved
loop-c-preserved c =
    entries_more c.args.children.now.list.items c.loop-c.c c.index.result.now c.loop-c.entries.items c.push.new.self.items (search (rules, arith)) (search (rules, arith)) c.index.ensures c.loop-c.invariant c.in_ok-push.ensures.items
