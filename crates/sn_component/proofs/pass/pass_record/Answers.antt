use Rattle.std.proofs.Common.{subst}
use Rattle.sn_net.specs.WellFormed.{FitsBoxes}
use Rattle.sn_net.proofs.Fits.{filter_closed}
use Rattle.sn_model.specs.Run.{boxes_of}
use Rattle.sn_component.proofs.pass.pass_record.Goals as goal

pub filter_answer-answer-requires-clause-closed : goal.filter_answer-answer-requires-clause-closed
filter_answer-answer-requires-clause-closed g c =
    let boxes = boxes_of c.args.run.now in
    filter_closed boxes c.in-Filter.filter (subst (FitsBoxes boxes) c.in-Filter.is c.requires.fits)
