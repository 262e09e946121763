-- What is still given, from what is kept of the network of a run.
use Rattle.std.specs.Prelude.{◌≡◌, false, List}
use Rattle.std.specs.List.{All}
use Rattle.sn_streams.specs.Machines.{emitted}
use Rattle.sn_net.specs.Item.{ModelItem, holds_stuck}
use Rattle.sn_model.specs.declared.run.Run.{Run}
use Rattle.sn_model.specs.Meaning.{tree}
use Rattle.sn_model.specs.Run.{boxes_of, net_of, setting_of}
use Rattle.sn_pass.specs.Keeping.{keeping}
use Rattle.sn_pass.specs.States.{held}
use Rattle.sn_pass.specs.declared.kept.Kept.{Kept}
use Rattle.sn_typing.specs.Typed.{IsTyped}

-- what the network still gives on further items
abbrev pub still_gives : Run → Kept → List ModelItem → List ModelItem
still_gives run kept xs = emitted (keeping (tree (setting_of run) (net_of run))) (held kept) xs

-- whatever typed items come, no record lacks a route
abbrev pub IsRouted : Run → Kept → Type 0
IsRouted run kept = (xs : List ModelItem) → All (IsTyped (boxes_of run) (net_of run)) xs → holds_stuck (still_gives run kept xs) ≡ false
