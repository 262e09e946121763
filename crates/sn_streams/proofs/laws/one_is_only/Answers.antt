use Rattle.sn_streams.proofs.Trees.{tree_has_one}
use Rattle.sn_streams.proofs.laws.one_is_only.Goals as goal

pub returns : goal.returns
returns g c = λ t xss yss all h. tree_has_one t all xss yss h
