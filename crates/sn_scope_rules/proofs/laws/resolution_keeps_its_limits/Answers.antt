use Rattle.sn_scope_rules.proofs.Results.{is_given, no_main, too_large, too_many}
use Rattle.sn_scope_rules.proofs.laws.resolution_keeps_its_limits.Goals as goal

pub returns-clause-no_main : goal.returns-clause-no_main
returns-clause-no_main c = no_main

pub returns-clause-too_many_names : goal.returns-clause-too_many_names
returns-clause-too_many_names c = too_many

pub returns-clause-too_large : goal.returns-clause-too_large
returns-clause-too_large c = too_large

pub returns-clause-whole : goal.returns-clause-whole
returns-clause-whole c = is_given
