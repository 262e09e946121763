use Rattle.sn_output.proofs.Printed.{printed-before_fault, ending-before_fault}
use Rattle.sn_output.proofs.laws.nothing_follows_a_fault.Goals as goal

pub returns-clause-printed : goal.returns-clause-printed
returns-clause-printed c = printed-before_fault

pub returns-clause-ended : goal.returns-clause-ended
returns-clause-ended c = ending-before_fault
