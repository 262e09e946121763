use Rattle.sn_view.proofs.Chains.{chained, begun, whole}
use Rattle.sn_view.proofs.laws.every_list_of_events.Goals as goal

pub returns-clause-allowed : goal.returns-clause-allowed
returns-clause-allowed c = λ run v ys formed k h. (chained run v formed k).allowed ys h

pub returns-clause-begun : goal.returns-clause-begun
returns-clause-begun c = λ run v formed k. begun run v formed k

pub returns-clause-whole : goal.returns-clause-whole
returns-clause-whole c = λ run v formed k rest. whole run v formed k rest
