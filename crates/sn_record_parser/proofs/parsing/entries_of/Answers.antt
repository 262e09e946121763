use Rattle.sn_record_parser.proofs.Lines.{line_once}
use Rattle.sn_record_parser.proofs.parsing.entries_of.Goals as goal

pub returns-clause-once : goal.returns-clause-once
returns-clause-once c = λ entries spelled. line_once c.line.result c.line.ensures spelled
