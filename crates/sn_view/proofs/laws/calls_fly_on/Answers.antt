use Rattle.sn_view.proofs.FlyingOn.{calls-fly-on}
use Rattle.sn_view.proofs.laws.calls_fly_on.Goals as goal

pub returns : goal.returns
returns c = record { stays = λ g e i call given f. calls-fly-on g e i call given f }
