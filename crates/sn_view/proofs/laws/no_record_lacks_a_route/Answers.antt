use Rattle.sn_view.proofs.Routed.{all_routed}
use Rattle.sn_view.proofs.laws.no_record_lacks_a_route.Goals as goal

pub returns : goal.returns
returns c = λ run g formed typed comes. all_routed run formed typed g comes
