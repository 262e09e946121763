use Rattle.std.proofs.Common.{◌≡◌, drop, fold}
use Rattle.sn_scope.specs.Types.{part_added, part_required, type_at}
use Rattle.sn_scope.proofs.types.type_at.Given as goal

abbrev pub invariant-loop-part : goal.invariant-loop-part
invariant-loop-part l =
    (fold (part_added l.names l.scopes l.types) l.variants (drop l.part-index l.parts) ≡ type_at l.names l.scopes l.types l.parts)
    × (fold (part_required l.names l.scopes) l.refusals (drop l.part-index l.parts) ≡ fold (part_required l.names l.scopes) l.initial.refusals l.parts)
