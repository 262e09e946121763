use Rattle.sn_parser.specs.Residual.{AfterTypeSig}
use Rattle.sn_type_parser.specs.SigResidual.{Completes}
use Rattle.sn_parser.proofs.Embedded.{through_ended, through_more, through_refused}
use Rattle.sn_parser.proofs.type_decl.in_sig.Goals as goal

pub returns-in-Ok : goal.returns-in-Ok
returns-in-Ok c = through_more _ _ _ _ c.in-Ok.ensures

pub returns-in-Err-Refused : goal.returns-in-Err-Refused
returns-in-Err-Refused c = through_refused _ _ _ (rw c.in-Err-Refused.field-0-is at c.in-Err-Refused.ensures)

pub returns-in-Err-Ended : goal.returns-in-Err-Ended
returns-in-Err-Ended c =
    through_ended (Completes c.args.sig) (AfterTypeSig c.args.around.done c.args.around.nets c.args.name) _ _ _ _
    (rw c.in-Err-Ended.field-0-is at c.in-Err-Ended.ensures) _ c.sig_ended.ensures
