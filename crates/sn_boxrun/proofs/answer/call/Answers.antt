use Rattle.std.proofs.Common.{ap, ◌∙◌}
use Rattle.sn_net.specs.Face.{variant_of}
use Rattle.sn_net.specs.BoxEvaluation.{body_outcome}
use Rattle.sn_boxrun.proofs.Answers.{answered-from}
use Rattle.sn_boxrun.proofs.answer.call.Goals as goal

-- src/answer.rt:75:1
pub returns : goal.returns
returns c =
    answered-from c.args.b.now c.args.place c.args.r.now (body_outcome c.args.b.now c.args.r.now c.args.fuel) _ _ _ _ _
    c.in_ok-emitted.ensures.emitted c.in_ok-emitted.ensures.fault (c.in_ok-input.ensures ∙ ap variant_of c.as_slice.ensures) c.in_ok-items.ensures c.in_ok-add_fault.ensures
