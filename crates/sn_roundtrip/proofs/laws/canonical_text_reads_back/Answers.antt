use Rattle.sn_roundtrip.proofs.Programs.{words_read_back, source_reads_back}
use Rattle.sn_roundtrip.proofs.laws.canonical_text_reads_back.Goals as goal

pub returns-clause-words : goal.returns-clause-words
returns-clause-words c = words_read_back

pub returns-clause-source : goal.returns-clause-source
returns-clause-source c = source_reads_back
