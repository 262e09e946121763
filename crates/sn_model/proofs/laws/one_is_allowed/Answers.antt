use Rattle.sn_streams.proofs.Trees.{tree_is_lawful}
use Rattle.sn_model.specs.Meaning.{tree}
use Rattle.sn_model.proofs.Lists.{one_list-allowed}
use Rattle.sn_model.proofs.laws.one_is_allowed.Goals as goal

pub returns-clause-stream : goal.returns-clause-stream
returns-clause-stream c = λ s net xss. (tree_is_lawful (tree s net)).allows xss

pub returns-clause-items : goal.returns-clause-items
returns-clause-items c = λ s net xs. one_list-allowed s net xs
