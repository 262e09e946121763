use Rattle.sn_scope_rules.proofs.Results.{is_resolved}
use Rattle.sn_scope_rules.proofs.laws.resolution_gives_what_is_declared.Goals as goal

pub returns : goal.returns
returns c = record { resolved = is_resolved }
