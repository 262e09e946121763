use Rattle.std.proofs.Common.{◌≡◌, drop, fold}
use Rattle.sn_scope.specs.Numbering.{after_part}
use Rattle.sn_scope.proofs.numbering.enter_types.Given as goal

abbrev pub invariant-loop-part : goal.invariant-loop-part
invariant-loop-part l = fold after_part l.names (drop l.part-index l.parts) ≡ fold after_part l.initial.names l.parts
