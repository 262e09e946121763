use Rattle.std.proofs.Common.{arith, rules, sym, ◌∙◌, true≢false}
use Rattle.sn_node.proofs.Calling.{none_flies, none_more_flies}
use Rattle.sn_node.proofs.node.Node.call_at.Goals as goal

pub loop-p-preserved : goal.loop-p-preserved
loop-p-preserved c =
    none_more_flies c.args.self.now.waiting.entries.items c.loop-p.p c.args.call c.args.given.now c.index.result.now (search (rules, arith)) c.index.ensures
    (λ is. true≢false (sym (c.is_call.ensures.1 is) ∙ c.if-is_call.false)) c.loop-p.invariant

pub returns-clause-none : goal.returns-clause-none
returns-clause-none c = none_flies c.args.self.now.waiting.entries.items c.loop-p.p c.args.call c.args.given.now (search (rules, arith)) c.loop-p.invariant
