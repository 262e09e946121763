use Rattle.sn_parser.proofs.Embedded.{through_done, through_more, through_refused}
use Rattle.sn_parser.proofs.Steps.{leads}
use Rattle.sn_box_parser.specs.BoxDeclResidual.{Completes as BoxCompletes, read}
use Rattle.sn_parser.specs.Residual.{After, InBox}
use Rattle.sn_parser.specs.Scopes.{after_declaration}
use Rattle.sn_parser.proofs.box_decl.in_box.Goals as goal

pub returns-in-Ok-More : goal.returns-in-Ok-More
returns-in-Ok-More c = through_more _ _ _ _ (rw c.in-Ok-More.field-0-is at c.in-Ok-More.ensures)

pub returns-in-Ok-Done : goal.returns-in-Ok-Done
returns-in-Ok-Done c =
    let a = c.args in
    let d = c.in-Ok-Done.decl in
    leads (InBox a.around.done a.around.nets a.at a.rest) a.token (after_declaration a.around a.at d) c.finish.result c.finish.ensures
    (through_done (BoxCompletes a.rest) (λ q all. After a.around.done a.around.nets a.at q.part q.rest all) (read d) a.token (rw c.in-Ok-Done.field-0-is at c.in-Ok-Done.ensures))

pub returns : goal.returns
returns c = through_refused _ _ _ (rw c.in-Err-Refused.field-0-is at c.in-Err-Refused.ensures)
