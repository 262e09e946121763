use Rattle.sn_view.proofs.Whole.{could-come}
use Rattle.sn_view.proofs.laws.could_come_before.Goals as goal

pub returns : goal.returns
returns c = λ v e ys k s may h. could-come v e k s may ys h
