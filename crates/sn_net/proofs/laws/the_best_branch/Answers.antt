use Rattle.sn_net.proofs.BestBranches.{best_branch-Some, best_branch-None}
use Rattle.sn_net.proofs.laws.the_best_branch.Goals as goal

pub returns-clause-best : goal.returns-clause-best
returns-clause-best c = best_branch-Some

pub returns-clause-none : goal.returns-clause-none
returns-clause-none c = best_branch-None
