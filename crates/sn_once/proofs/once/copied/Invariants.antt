use Rattle.std.proofs.Common.{◌≡◌, ◌++◌, drop}
use Rattle.sn_once.proofs.once.copied.Given as goal

abbrev pub invariant-loop-item : goal.invariant-loop-item
invariant-loop-item l = l.copies ++ drop l.item-index l.items ≡ l.items
