use Rattle.std.proofs.Common.{arith, rules, sym, ◌∙◌}
use Rattle.sn_graph.proofs.Calling.{flies_there, none_flies_there, none_of_another}
use Rattle.sn_graph.proofs.arena.Arena.call_at.Goals as goal

pub returns-then-is_box_of-clause-found : goal.returns-then-is_box_of-clause-found
returns-then-is_box_of-clause-found c =
    flies_there c.args.self.now c.args.run.now c.requires.made c.args.job.now c.args.i c.index-node.result.now (search (rules, arith)) c.index-node.ensures c.call_at.result
    (sym c.is_box_of.ensures ∙ c.if-is_box_of.true) c.call_at.ensures.found

pub returns-then-is_box_of-clause-none : goal.returns-then-is_box_of-clause-none
returns-then-is_box_of-clause-none c =
    none_flies_there c.args.self.now c.args.run.now c.requires.made c.args.job.now c.args.i c.index-node.result.now (search (rules, arith)) c.index-node.ensures c.call_at.result c.call_at.ensures.none

pub returns-else-is_box_of-clause-none : goal.returns-else-is_box_of-clause-none
returns-else-is_box_of-clause-none c =
    none_of_another c.args.self.now c.args.run.now c.requires.made c.args.job.now c.args.i c.index-node.result.now (search (rules, arith)) c.index-node.ensures (sym c.is_box_of.ensures ∙ c.if-is_box_of.false)
