use Rattle.sn_net.specs.BoxEvaluation.{body_outcome}
use Rattle.sn_boxrun.proofs.Answers.{answered-from}
use Rattle.sn_boxrun.proofs.answer.call_owned.Goals as goal

-- src/answer.rt:105:1
pub returns : goal.returns
returns c =
    answered-from c.args.b.now c.args.place c.args.taken (body_outcome c.args.b.now c.args.taken c.args.fuel) _ _ _ _ _
    c.in_ok-emitted.ensures.emitted c.in_ok-emitted.ensures.fault c.requires c.in_ok-items.ensures c.in_ok-add_fault.ensures
