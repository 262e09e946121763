use Rattle.sn_outcomes.proofs.Programs.{same_spelled, same_refused, spelled_or_refused}
use Rattle.sn_outcomes.proofs.laws.tokens_are_one_program.Goals as goal

pub returns-clause-one_program : goal.returns-clause-one_program
returns-clause-one_program c = same_spelled

pub returns-clause-one_refusal : goal.returns-clause-one_refusal
returns-clause-one_refusal c = same_refused

pub returns-clause-never_both : goal.returns-clause-never_both
returns-clause-never_both c = spelled_or_refused
