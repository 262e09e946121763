use Rattle.std.proofs.Common.{◌≡◌, ◌++◌, take}
use Rattle.sn_types.proofs.variants.push_copies.Given as goal

abbrev pub invariant-loop-variant : goal.invariant-loop-variant
invariant-loop-variant l = l.variants.items ≡ l.initial.variants.items ++ take l.variant-index l.more
