use Rattle.std.proofs.Common.{◌≢◌, subst}
use Rattle.sn_net.specs.Cell.{Unmatched, reception}
use Rattle.sn_sync.proofs.Receptions.{accepted-matched}
use Rattle.sn_component.specs.Component.{state_of}
use Rattle.sn_component.specs.declared.pass.Keeps.{Keeps}
use Rattle.sn_component.proofs.pass.pass_cell.Goals as goal

pub offer-requires : goal.offer-requires
offer-requires c =
    (accepted-matched c.args.patterns.now c.in-Records.holding c.args.r).1
    (subst (λ (k : Keeps). reception c.args.patterns.now (state_of k) c.args.r ≢ Unmatched) c.in-Records.is c.requires)
