use Rattle.std.proofs.Common.{List, map, ap, ◌∙◌}
use Rattle.sn_pass.specs.Held.{kept_at}
use Rattle.sn_pass.specs.States.{held}
use Rattle.sn_pass.specs.declared.kept.Kept.{Kept}
use Rattle.sn_pass.proofs.Places.{one_fresh}
use Rattle.sn_pass.proofs.slots.grow.Goals as goal

pub loop-states-preserved : goal.loop-states-preserved
loop-states-preserved c = λ j.
    ap (λ (xs : List Kept). kept_at (map held xs) j) c.in_ok-push.ensures.items ∙ one_fresh c.loop-states.states.items j ∙ c.loop-states.invariant j
