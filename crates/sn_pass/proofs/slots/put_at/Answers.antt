use Rattle.std.proofs.Common.{ap, arith, ◌∙◌}
use Rattle.sn_pass.specs.States.{held}
use Rattle.sn_pass.proofs.Places.{set_elsewhere, set_here}
use Rattle.sn_pass.proofs.slots.put_at.Goals as goal

pub returns-clause-put : goal.returns-clause-put
returns-clause-put c = set_here c.grow.new.states.items c.args.i c.replace.new.dest (omega (arith, c.in_ok-grow.ensures.long)) ∙ ap held c.replace.ensures.after

pub returns-clause-others : goal.returns-clause-others
returns-clause-others c = λ j other. set_elsewhere c.grow.new.states.items c.args.i j c.replace.new.dest other ∙ c.in_ok-grow.ensures.same j
