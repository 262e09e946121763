use Rattle.sn_streams.proofs.Trees.{tree_is_lawful}
use Rattle.sn_streams.proofs.laws.one_is_allowed.Goals as goal

pub returns : goal.returns
returns g c = λ t xss. (tree_is_lawful t).allows xss
