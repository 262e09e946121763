use Rattle.sn_streams.proofs.LastBorder.{added, removed}
use Rattle.sn_streams.proofs.laws.last_border.Goals as goal

pub returns : goal.returns
returns g c = λ t xss yss. (added t xss yss, removed t xss yss)
