-- Planned faults of the fakes.
use Rattle.std.specs.Prelude.{ℕ, ◌+◌, ◌-◌, ◌^◌, min, Bool, nat_eq, [], ◌∷◌, ◌++◌}
use Rattle.std.specs.List.{list_any}
use Rattle.sn_io.specs.declared.plan.Plan.{Plan}

-- no call yet, and none that is to fail
abbrev pub empty_plan : Plan
empty_plan = record { calls = 0; planned = [] }

-- the call with this number is to fail too
abbrev pub with_call : Plan → ℕ → Plan
with_call plan call = record plan { planned = plan.planned ++ call ∷ [] }

-- the number of the next call, which stays at its last value
abbrev pub next_call : Plan → ℕ
next_call plan = min (plan.calls + 1) (2 ^ 64 - 1)

abbrev pub after_call : Plan → Plan
after_call plan = record plan { calls = next_call plan }

-- the next call is one of those that are to fail
abbrev pub fails_next : Plan → Bool
fails_next plan = list_any (λ call. nat_eq call (next_call plan)) plan.planned
