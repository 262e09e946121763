use Rattle.sn_scope_rules.proofs.Rooted.{standing_tree}
use Rattle.sn_scope_rules.proofs.laws.unbroken_nets_are_trees.Goals as goal

pub returns : goal.returns
returns c = record { tree = standing_tree }
