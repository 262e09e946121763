use Rattle.sn_view.proofs.Feeding.{boxes-fed}
use Rattle.sn_view.proofs.laws.boxes_are_fed.Goals as goal

pub returns : goal.returns
returns c = λ run g formed typed comes. boxes-fed run formed typed g comes
