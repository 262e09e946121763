use Rattle.sn_net.specs.Dispatchers.{merge_of}
use Rattle.sn_net.specs.Route.{choice_key, of_record, split_key}
use Rattle.sn_routed.proofs.Coming.{has_key, level_has_key}
use Rattle.sn_routed.proofs.laws.items_have_keys.Goals as goal

pub returns-clause-of_choice : goal.returns-clause-of_choice
returns-clause-of_choice c = λ run steps place m faces branches xss before behind x at is.
    has_key run steps (merge_of m) place (of_record (choice_key faces)) _ xss before behind x at is

pub returns-clause-of_level : goal.returns-clause-of_level
returns-clause-of_level c = level_has_key

pub returns-clause-of_split : goal.returns-clause-of_split
returns-clause-of_split c = λ run steps place m id body xss before behind x at is.
    has_key run steps (merge_of m) place (of_record (split_key id)) _ xss before behind x at is
