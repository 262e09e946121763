use Rattle.std.proofs.Common.{◌≡◌, drop}
use Rattle.std.specs.FinMap.{empty}
use Rattle.sn_net.specs.Answer.{with_parts}
use Rattle.sn_filter.proofs.template.record_of.Given as goal

abbrev pub invariant-loop-part : goal.invariant-loop-part
invariant-loop-part l = with_parts l.taken (drop l.part-index l.parts) l.made ≡ with_parts l.taken l.parts empty
