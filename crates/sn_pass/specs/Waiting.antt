-- Items that wait for a star, as a stack of entries.
use Rattle.std.specs.Prelude.{◌≤◌, ℕ, List, map, reverse, All}
use Rattle.sn_pass.specs.Flowing.{flows}
use Rattle.sn_pass.specs.Levels.{Entry}
use Rattle.sn_pass.specs.declared.waiting.Waiting.{Waiting}

abbrev pub entry_of : Waiting → Entry
entry_of waiting = (waiting.level, flows waiting.item)

-- the last of the list is on top
abbrev pub stack_of : List Waiting → List Entry
stack_of waiting = reverse (map entry_of waiting)

-- each waits at one of the levels, or behind the last
abbrev pub AreWithin : ℕ → List Waiting → Type 0
AreWithin depth waiting = All (λ (e : Entry). e.0 ≤ depth) (stack_of waiting)
