use Rattle.sn_view.proofs.Counted.{calls-stay}
use Rattle.sn_view.proofs.laws.calls_stay.Goals as goal

pub returns : goal.returns
returns c = record { stays = λ g e i call given f. calls-stay g e i call given f }
