use Rattle.sn_scope_rules.proofs.Resolutions.{refuses_first, refuses_none}
use Rattle.sn_scope_rules.proofs.laws.resolution_refuses_the_least.Goals as goal

pub returns-clause-refused : goal.returns-clause-refused
returns-clause-refused c = refuses_first

pub returns-clause-unrefused : goal.returns-clause-unrefused
returns-clause-unrefused c = refuses_none
