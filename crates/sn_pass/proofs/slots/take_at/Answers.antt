use Rattle.std.proofs.Common.{ap, arith, sym, ◌∙◌}
use Rattle.sn_pass.specs.States.{held}
use Rattle.sn_pass.proofs.Places.{past_end, set_elsewhere, stands_at}
use Rattle.sn_pass.proofs.States.{held-Fresh}
use Rattle.sn_pass.proofs.slots.take_at.Goals as goal

pub returns-then-i-len-clause-taken : goal.returns-then-i-len-clause-taken
returns-then-i-len-clause-taken c = held-Fresh ∙ sym (past_end c.args.states.now.items c.args.i (omega arith))

pub returns-clause-taken : goal.returns-clause-taken
returns-clause-taken c =
    ap held c.replace.ensures.value ∙ sym (stands_at c.args.states.now.items c.args.i c.index_mut.result.now (omega arith) c.index_mut.ensures.value)

pub returns-clause-others : goal.returns-clause-others
returns-clause-others c = λ j other. set_elsewhere c.args.states.now.items c.args.i j c.replace.new.dest other
