use Rattle.sn_record_roundtrip.proofs.Lines.{line_reads_back}
use Rattle.sn_record_roundtrip.proofs.Spelled.{line_writable}
use Rattle.sn_record_roundtrip.proofs.laws.printed_line_reads_back.Goals as goal

pub returns-clause-printed : goal.returns-clause-printed
returns-clause-printed c = line_reads_back

pub returns-clause-read : goal.returns-clause-read
returns-clause-read c = line_writable
