use Rattle.sn_parser.proofs.Ends.{no_end_in}
use Rattle.sn_parser.proofs.machine.Parser.end.Goals as goal

pub returns-in_default : goal.returns-in_default
returns-in_default c = no_end_in _ _ c.in_default.not-Want
