use Rattle.sn_streams.proofs.Trees.{tree_keeps}
use Rattle.sn_streams.proofs.laws.borders_are_kept.Goals as goal

pub returns : goal.returns
returns g c = λ t xss yss h. tree_keeps t xss yss h
