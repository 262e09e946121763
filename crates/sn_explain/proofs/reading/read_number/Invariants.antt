use Rattle.std.proofs.Common.{◌≡◌, take}
use Rattle.sn_explain.specs.Numbers.{number_of, AreDigits}
use Rattle.sn_explain.proofs.reading.read_number.Given as goal

abbrev pub invariant-loop-count : goal.invariant-loop-count
invariant-loop-count l = (l.number ≡ number_of (take l.count l.text)) × AreDigits l.text l.count
