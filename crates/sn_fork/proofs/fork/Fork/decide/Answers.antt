use Rattle.std.proofs.Common.{subst}
use Rattle.sn_net.specs.declared.routing.Key.{Key}
use Rattle.sn_fork.specs.Facts.{Wants}
use Rattle.sn_fork.proofs.fork.Fork.decide.Goals as goal

pub unreachable-requires : goal.unreachable-requires
unreachable-requires c = c.routes_all.ensures (subst (λ (k : Key). Wants c.args.self.now k) c.in-Stuck.is c.in-Item.ensures)
