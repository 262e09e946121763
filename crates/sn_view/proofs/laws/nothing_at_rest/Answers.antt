use Rattle.sn_view.proofs.Resting.{nothing-more}
use Rattle.sn_view.proofs.laws.nothing_at_rest.Goals as goal

pub returns : goal.returns
returns c = λ v ys placed orderly s rest h. nothing-more v placed rest orderly s ys h
