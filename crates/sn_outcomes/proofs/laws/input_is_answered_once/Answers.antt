use Rattle.sn_outcomes.proofs.Inputs.{same_input, same_wrong_input, typed_or_refused}
use Rattle.sn_outcomes.proofs.laws.input_is_answered_once.Goals as goal

pub returns-clause-one_input : goal.returns-clause-one_input
returns-clause-one_input c = same_input

pub returns-clause-one_refusal : goal.returns-clause-one_refusal
returns-clause-one_refusal c = same_wrong_input

pub returns-clause-never_both : goal.returns-clause-never_both
returns-clause-never_both c = typed_or_refused
