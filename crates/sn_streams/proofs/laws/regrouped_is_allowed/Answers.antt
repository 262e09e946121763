use Rattle.sn_streams.proofs.Trees.{tree_is_lawful}
use Rattle.sn_streams.proofs.laws.regrouped_is_allowed.Goals as goal

pub returns : goal.returns
returns g c = λ t sizes xss yss h. (tree_is_lawful t).regroups sizes xss yss h
