use Rattle.sn_parser.proofs.Exact.{source_only, source_refused, source_right}
use Rattle.sn_parser.proofs.parsing.parse.Goals as goal

pub returns-clause-answer : goal.returns-clause-answer
returns-clause-answer c = source_right _ _ _ c.requires.placed c.parsed.ensures

pub returns-clause-program : goal.returns-clause-program
returns-clause-program c = λ program. source_only _ _ _ program c.parsed.ensures

pub returns-clause-refused : goal.returns-clause-refused
returns-clause-refused c = λ fault n. source_refused _ _ _ fault n c.parsed.ensures
