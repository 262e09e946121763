use Rattle.sn_view.proofs.Untouched.{others-stay}
use Rattle.sn_view.proofs.laws.others_stay_as_they_are.Goals as goal

pub returns : goal.returns
returns c = record { stays = λ g e other j at apart may. others-stay g e other j at apart may }
