use Rattle.std.proofs.Common.{subst}
use Rattle.sn_net.specs.declared.routing.Key.TheVariants as key
use Rattle.sn_fork.specs.Facts.{Wants}
use Rattle.sn_fork.specs.Fork.{forking_of}
use Rattle.sn_fork.specs.Seen.{Forking}
use Rattle.sn_fork.proofs.Routed.{never_stuck}
use Rattle.sn_fork.proofs.fork.Fork.routes_all.Goals as goal

pub returns : goal.returns
returns c = subst (λ (f : Forking). Wants f key.Stuck → ⊥) c.self.view_is (never_stuck (forking_of c.self.inside) c.self.invariant.forks)
