use Rattle.sn_parser.proofs.Steps.{start_from, start_to}
use Rattle.sn_parser.proofs.machine.Parser.start.Goals as goal

pub returns : goal.returns
returns c = λ w all. rw (c.new.ensures, c.new-2.ensures) (start_from, start_to)
