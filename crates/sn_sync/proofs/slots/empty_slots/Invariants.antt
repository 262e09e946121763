use Rattle.std.proofs.Common.{◌≡◌, map, take, None}
use Rattle.sn_sync.proofs.slots.empty_slots.Given as goal

abbrev pub invariant-loop-pattern : goal.invariant-loop-pattern
invariant-loop-pattern l = l.slots.items ≡ map (λ pattern. None) (take l._pattern-index l.patterns)
