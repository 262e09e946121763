use Rattle.std.proofs.Common.{◌≡◌, drop, fold}
use Rattle.sn_scope.specs.Numbering.{after_item}
use Rattle.sn_scope.proofs.numbering.enter_template.Given as goal

abbrev pub invariant-loop-item : goal.invariant-loop-item
invariant-loop-item l = fold after_item l.names (drop l.item-index l.item-items) ≡ fold after_item l.initial.names l.item-items
