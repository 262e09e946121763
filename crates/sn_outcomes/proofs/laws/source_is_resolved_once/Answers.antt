use Rattle.sn_outcomes.proofs.Loaded.{same_program, same_refusal, program_or_refusal}
use Rattle.sn_outcomes.proofs.laws.source_is_resolved_once.Goals as goal

pub returns-clause-one_program : goal.returns-clause-one_program
returns-clause-one_program c = same_program

pub returns-clause-one_refusal : goal.returns-clause-one_refusal
returns-clause-one_refusal c = same_refusal

pub returns-clause-never_both : goal.returns-clause-never_both
returns-clause-never_both c = program_or_refusal
