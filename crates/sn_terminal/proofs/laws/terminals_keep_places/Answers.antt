use Rattle.sn_terminal.proofs.Saying.{say_places}
use Rattle.sn_terminal.proofs.laws.terminals_keep_places.Goals as goal

pub returns : goal.returns
returns c = say_places
