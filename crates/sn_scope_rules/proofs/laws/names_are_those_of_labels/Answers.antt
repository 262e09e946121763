use Rattle.sn_scope_rules.proofs.Named.{program_names}
use Rattle.sn_scope_rules.proofs.laws.names_are_those_of_labels.Goals as goal

pub returns : goal.returns
returns c = record { names = program_names }
