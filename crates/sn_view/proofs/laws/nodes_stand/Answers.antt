use Rattle.sn_view.proofs.Placing.{unfold-placed}
use Rattle.sn_view.proofs.Whole.{placed-kept}
use Rattle.sn_view.proofs.laws.nodes_stand.Goals as goal

pub returns-clause-others : goal.returns-clause-others
returns-clause-others c = λ v e k s may other. placed-kept v e k s may other

pub returns-clause-unfolds : goal.returns-clause-unfolds
returns-clause-unfolds c = λ v i placed formed may. unfold-placed v placed formed i may
