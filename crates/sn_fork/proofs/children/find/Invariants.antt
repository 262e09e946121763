use Rattle.std.proofs.Common.{◌≡◌, take}
use Rattle.std.specs.List.{All}
use Rattle.sn_fork.specs.declared.fork.Child.{Child}
use Rattle.sn_fork.proofs.children.find.Given as goal

-- up to here none has the key
abbrev pub invariant-loop-c : goal.invariant-loop-c
invariant-loop-c l = record { none : All (λ (child : Child). child.key ≡ l.fn.key → ⊥) (take l.c l.fn.children) }
