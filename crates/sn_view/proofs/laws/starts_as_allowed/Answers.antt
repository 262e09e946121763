use Rattle.sn_view.proofs.Standing.{start-placed}
use Rattle.sn_view.proofs.Beginning.{can-start, start-can, sane-start}
use Rattle.sn_view.proofs.laws.starts_as_allowed.Goals as goal

pub returns-clause-can : goal.returns-clause-can
returns-clause-can c = λ run ys. (can-start run ys, start-can run ys)

pub returns-clause-sane : goal.returns-clause-sane
returns-clause-sane c = λ run. sane-start run

pub returns-clause-placed : goal.returns-clause-placed
returns-clause-placed c = λ run. start-placed run
