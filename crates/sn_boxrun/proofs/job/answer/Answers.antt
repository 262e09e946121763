use Rattle.std.proofs.Common.{rules, ◌≡◌, Some, slice_get, IfOk, map, subst}
use Rattle.sn_model.specs.Run.{boxes_of, fuel_of}
use Rattle.sn_net.specs.Item.{modelled}
use Rattle.sn_boxrun.proofs.Answering.{answers_job}
use Rattle.sn_boxrun.proofs.job.answer.Goals as goal

pub returns : goal.returns
returns c =
    let job = c.args.job.now in
    let boxes = boxes_of c.args.run.now in
    let at : slice_get boxes job.number ≡ Some c.at-program.result.now = search rules in
    subst (λ given. IfOk c.call.result (λ items. map modelled items ≡ given))
    (answers_job boxes (fuel_of c.args.run.now) job.place job.number c.at-program.result.now job.given at (c.requires.matches _ at)) (search rules)
