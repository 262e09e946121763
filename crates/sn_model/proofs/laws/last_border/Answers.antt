use Rattle.sn_streams.proofs.LastBorder.{added, removed}
use Rattle.sn_model.specs.Meaning.{tree}
use Rattle.sn_model.proofs.laws.last_border.Goals as goal

pub returns : goal.returns
returns c = λ s net xss yss. (added (tree s net) xss yss, removed (tree s net) xss yss)
