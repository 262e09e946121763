use Rattle.sn_scope_rules.proofs.Once.{signature_once}
use Rattle.sn_scope_rules.proofs.OneTree.{tree_once}
use Rattle.sn_scope_rules.proofs.laws.what_stands_is_one_thing.Goals as goal

pub returns-clause-tree : goal.returns-clause-tree
returns-clause-tree c = λ names boxes around network one other first second. tree_once names boxes around network one first other second

pub returns-clause-types : goal.returns-clause-types
returns-clause-types c = λ names around sig input output other_input other_output one other. signature_once names around sig input output one other_input other_output other
