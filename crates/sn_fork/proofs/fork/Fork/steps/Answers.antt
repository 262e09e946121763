use Rattle.std.proofs.Common.{subst}
use Rattle.sn_fork.specs.Facts.{ForksAt}
use Rattle.sn_fork.proofs.fork.Fork.steps.Goals as goal

pub returns-clause-stands : goal.returns-clause-stands
returns-clause-stands c = subst ForksAt c.self.view_is c.self.invariant.forks.stands
