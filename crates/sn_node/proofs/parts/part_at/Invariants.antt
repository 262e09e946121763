use Rattle.std.proofs.Common.{◌≡◌, drop}
use Rattle.sn_view.specs.Parts.{part_at}
use Rattle.sn_node.proofs.parts.part_at.Given as goal

abbrev pub invariant-loop-i : goal.invariant-loop-i
invariant-loop-i l = part_at l.part (drop l.i-index l.path) ≡ part_at l.initial.part l.path
