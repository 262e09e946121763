use Rattle.std.proofs.Common.{refl}
use Rattle.sn_parser.proofs.machine.finish_outermost.Goals as goal

pub returns : goal.returns
returns c = rw (c.in_ok-done.ensures, c.new.ensures) refl
