use Rattle.sn_outcomes.proofs.Programs.{same_program, same_fault, program_or_fault}
use Rattle.sn_outcomes.proofs.laws.terminals_are_one_program.Goals as goal

pub returns-clause-one_program : goal.returns-clause-one_program
returns-clause-one_program c = same_program

pub returns-clause-one_refusal : goal.returns-clause-one_refusal
returns-clause-one_refusal c = same_fault

pub returns-clause-never_both : goal.returns-clause-never_both
returns-clause-never_both c = program_or_fault
