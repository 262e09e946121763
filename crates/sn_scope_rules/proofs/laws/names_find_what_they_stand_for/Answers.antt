use Rattle.sn_scope_rules.proofs.Places.{found_stands}
use Rattle.sn_scope_rules.proofs.laws.names_find_what_they_stand_for.Goals as goal

pub returns : goal.returns
returns c = record { stands = found_stands }
