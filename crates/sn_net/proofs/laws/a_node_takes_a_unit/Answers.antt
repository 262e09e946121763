use Rattle.sn_net.proofs.Evaluation.{evaluated-node}
use Rattle.sn_net.proofs.laws.a_node_takes_a_unit.Goals as goal

-- src/laws.rt:11:8
pub returns : goal.returns
returns c = λ program e variables progress. evaluated-node program e variables progress.fuel progress.emitted
