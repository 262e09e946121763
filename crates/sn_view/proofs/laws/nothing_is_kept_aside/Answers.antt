use Rattle.sn_view.proofs.Chains.{stays_aside}
use Rattle.sn_view.proofs.laws.nothing_is_kept_aside.Goals as goal

pub returns : goal.returns
returns c = λ run g formed comes. stays_aside run formed g comes
