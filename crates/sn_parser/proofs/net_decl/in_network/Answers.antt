use Rattle.std.proofs.Common.{refl}
use Rattle.sn_parser.proofs.Embedded.{network_closed, through_more, through_refused}
use Rattle.sn_parser.proofs.Steps.{leads}
use Rattle.sn_parser.specs.Residual.{InNetwork}
use Rattle.sn_parser.specs.Scopes.{after_declaration}
use Rattle.sn_parser.proofs.net_decl.in_network.Goals as goal

pub returns-in-Ok : goal.returns-in-Ok
returns-in-Ok c = through_more _ _ _ _ c.in-Ok.ensures

pub returns-in-Err-Refused : goal.returns-in-Err-Refused
returns-in-Err-Refused c = through_refused _ _ _ (rw c.in-Err-Refused.field-0-is at c.in-Err-Refused.ensures)

pub returns-in-Err-Ended : goal.returns-in-Err-Ended
returns-in-Err-Ended c =
    let a = c.args in
    let d = c.with_connect.result in
    let next = after_declaration a.around a.net.name.at d in
    leads (InNetwork a.around.done a.around.nets a.net a.network) a.token next c.finish.result c.finish.ensures
    (network_closed a.around a.net a.network c.in-Err-Ended.network _ a.token d next (rw c.in-Err-Ended.field-0-is at c.in-Err-Ended.ensures) c.with_connect.ensures refl)
