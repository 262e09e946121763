use Rattle.sn_streams.proofs.Trees.{tree_keeps}
use Rattle.sn_model.specs.Meaning.{tree}
use Rattle.sn_model.proofs.laws.borders_are_kept.Goals as goal

pub returns : goal.returns
returns c = λ s net xss yss h. tree_keeps (tree s net) xss yss h
