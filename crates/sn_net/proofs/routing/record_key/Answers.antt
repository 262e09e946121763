use Rattle.sn_net.proofs.Routed.{guard_over}
use Rattle.sn_net.proofs.routing.record_key.Goals as goal

pub tap_key-requires : goal.tap_key-requires
tap_key-requires c = guard_over c.args.net.now c.in-Star.place c.in-Star.merge c.in-Star.body c.in-Star.exit c.in-Star.guard c.in-Star.is c.requires
