use Rattle.std.proofs.Common.{◌≡◌, fold, take}
use Rattle.sn_scope.specs.Variants.{added}
use Rattle.sn_scope.proofs.variants.Variants.add_all.Given as goal

abbrev pub invariant-loop-set : goal.invariant-loop-set
invariant-loop-set l = l.self ≡ fold added l.initial.self (take l.set-index l.sets)
