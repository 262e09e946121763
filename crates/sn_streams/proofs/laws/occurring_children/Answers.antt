use Rattle.sn_streams.proofs.Occurring.{all_asked, occurring_asked}
use Rattle.sn_streams.proofs.laws.occurring_children.Goals as goal

pub returns : goal.returns
returns g c = λ t xss yss. (occurring_asked t xss yss, all_asked t xss yss)
