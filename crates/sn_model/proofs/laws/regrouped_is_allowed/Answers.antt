use Rattle.sn_streams.proofs.Trees.{tree_is_lawful}
use Rattle.sn_model.specs.Meaning.{tree}
use Rattle.sn_model.proofs.laws.regrouped_is_allowed.Goals as goal

pub returns : goal.returns
returns c = λ s net sizes xss yss h. (tree_is_lawful (tree s net)).regroups sizes xss yss h
