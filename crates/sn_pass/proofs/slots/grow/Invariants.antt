use Rattle.std.proofs.Common.{◌≡◌, ◌-◌, ◌+◌, ℕ, map, vec_len}
use Rattle.sn_pass.specs.Held.{kept_at}
use Rattle.sn_pass.specs.States.{held}
use Rattle.sn_pass.proofs.slots.grow.Given as goal

abbrev pub invariant-loop-states : goal.invariant-loop-states
invariant-loop-states l = (j : ℕ) → kept_at (map held l.states.items) j ≡ kept_at (map held l.initial.states.items) j

abbrev pub decreases-loop-states : goal.decreases-loop-states
decreases-loop-states l = l.i + 1 - vec_len l.states
