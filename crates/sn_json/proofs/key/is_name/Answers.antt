use Rattle.std.proofs.Common.{◌∙◌}
use Rattle.sn_json.proofs.Keys.{name_is_all}
use Rattle.sn_json.proofs.key.is_name.Goals as goal

pub returns-in-Some : goal.returns-in-Some
returns-in-Some c = c.is_at_end.ensures ∙ name_is_all c.in-Some.ensures
