use Rattle.sn_streams.proofs.Occurring.{all_asked, occurring_asked}
use Rattle.sn_model.specs.Meaning.{tree}
use Rattle.sn_model.proofs.laws.occurring_keys.Goals as goal

pub returns : goal.returns
returns c = λ s net xss yss. (occurring_asked (tree s net) xss yss, all_asked (tree s net) xss yss)
