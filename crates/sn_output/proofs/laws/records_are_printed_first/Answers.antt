use Rattle.sn_output.proofs.Printed.{printed-records, printed-after_records, ending-records, ending-after_records}
use Rattle.sn_output.proofs.laws.records_are_printed_first.Goals as goal

pub returns-clause-lines : goal.returns-clause-lines
returns-clause-lines c = printed-records

pub returns-clause-printed : goal.returns-clause-printed
returns-clause-printed c = printed-after_records

pub returns-clause-unended : goal.returns-clause-unended
returns-clause-unended c = ending-records

pub returns-clause-ended : goal.returns-clause-ended
returns-clause-ended c = ending-after_records
