use Rattle.std.proofs.Common.{◌≡◌, ◌++◌, map}
use Rattle.sn_net.specs.Item.{modelled}
use Rattle.sn_boxrun.specs.Call.{inherited}
use Rattle.sn_boxrun.proofs.answer.inheriting.Given as goal

abbrev pub invariant-loop-made : goal.invariant-loop-made
invariant-loop-made l = map modelled l.items ++ map (inherited l.r l.input) l.made-iterator.rest.items ≡ map (inherited l.r l.input) l.fn.emitted
