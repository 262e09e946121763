use Rattle.sn_record_roundtrip.proofs.Files.{line_gives, file_gives, file_gives_only}
use Rattle.sn_record_roundtrip.proofs.laws.printed_file_reads_back.Goals as goal

pub returns-clause-line : goal.returns-clause-line
returns-clause-line c = λ names shown are writable. line_gives names are shown writable

pub returns-clause-lines : goal.returns-clause-lines
returns-clause-lines c = λ names records are writable few. file_gives names are records writable few

pub returns-clause-only : goal.returns-clause-only
returns-clause-only c = λ names records result are writable few. file_gives_only names are records result writable few
