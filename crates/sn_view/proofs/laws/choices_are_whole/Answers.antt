use Rattle.sn_view.proofs.Placing.{choices-whole}
use Rattle.sn_view.proofs.laws.choices_are_whole.Goals as goal

pub returns : goal.returns
returns c = λ v placed formed. choices-whole v placed formed
