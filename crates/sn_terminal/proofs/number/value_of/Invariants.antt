use Rattle.sn_terminal.proofs.Numbers.{HasValue}
use Rattle.sn_terminal.proofs.number.value_of.Given as goal

abbrev pub invariant-loop-digit : goal.invariant-loop-digit
invariant-loop-digit l = HasValue l.digits l.digit-index l.value
