use Rattle.sn_type_parser.proofs.SigSteps.{types_more, types_refused, types_ended}
use Rattle.sn_type_parser.proofs.signatures.SigParser.step.Goals as goal

pub returns-in-Ok : goal.returns-in-Ok
returns-in-Ok c = types_more c.args.self.input c.args.self.types c.in-Ok.types c.args.token c.in-Ok.ensures

pub returns-in-Err-Refused : goal.returns-in-Err-Refused
returns-in-Err-Refused c = types_refused c.args.self.input c.args.self.types c.args.token (rw c.in-Err-Refused.field-0-is at c.in-Err-Refused.ensures)

pub returns-in-Err-Ended : goal.returns-in-Err-Ended
returns-in-Err-Ended c =
    let s = c.args.self in
    let e = c.in-Err-Ended in
    types_ended s.input s.types c.args.token e.parts e.symbol e.at c.after_type.result (rw e.field-0-is at e.ensures) c.after_type.ensures
