use Rattle.sn_scope_rules.proofs.Standings.{box_numbered, found_in_net}
use Rattle.sn_scope_rules.proofs.laws.calls_are_of_the_boxes_that_names_stand_for.Goals as goal

pub returns-clause-found : goal.returns-clause-found
returns-clause-found c = λ program around there decl found net name. found_in_net program around there decl found net name

pub returns-clause-numbered : goal.returns-clause-numbered
returns-clause-numbered c = box_numbered
