use Rattle.std.proofs.Common.{arith, sym, ◌∙◌}
use Rattle.sn_flow.proofs.Padding.{past_end, set_elsewhere, stands_at}
use Rattle.sn_flow.proofs.table.taken.Goals as goal

pub returns-then-i-len-clause-part : goal.returns-then-i-len-clause-part
returns-then-i-len-clause-part c = c.no_table.ensures ∙ sym (past_end c.args.parts.now.items c.args.i (omega arith))

pub returns-clause-part : goal.returns-clause-part
returns-clause-part c = c.replace.ensures.value ∙ sym (stands_at c.args.parts.now.items c.args.i c.index_mut.result.now (omega arith) c.index_mut.ensures.value)

pub returns-clause-others : goal.returns-clause-others
returns-clause-others c = λ j other. set_elsewhere c.args.parts.now.items c.args.i j c.replace.new.dest other
