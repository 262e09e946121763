-- Components as machines over entries.
use Rattle.std.specs.Prelude.{List, [], ◌∷◌}
use Rattle.sn_streams.specs.Machines.{Machine}
use Rattle.sn_net.specs.declared.net.Net.{Net}
use Rattle.sn_net.specs.declared.net.Net.TheOpen.{Net-F}
use Rattle.sn_net.specs.Cell.{CellState, Passing, new_cell}
use Rattle.sn_net.specs.Item.{ModelItem}
use Rattle.sn_model.specs.Components.{box_item, cell, filter_item}
use Rattle.sn_model.specs.Meaning.{Setting}
use Rattle.sn_component.specs.declared.pass.Keeps.{Keeps}
use Rattle.sn_component.specs.declared.pass.Keeps.TheVariants as keeps

-- a machine that answers each item alone
abbrev pub answers : (ModelItem → List ModelItem) → Machine ModelItem CellState
answers answer = record { next = λ s x. s; emits = λ s x. answer x }

-- the machine of a box, a filter or a synchrocell, and the state that it starts from; other networks have none
abbrev pub machine_of : Setting → Net-F Net → Machine ModelItem CellState
machine_of s (Net-F.Box place number) = answers (box_item s.boxes s.fuel place number)
machine_of s (Net-F.Filter filter) = answers (filter_item filter)
machine_of s (Net-F.Sync place patterns) = cell place patterns
machine_of s other = answers (λ x. x ∷ [])

abbrev pub start_of : Net-F Net → CellState
start_of (Net-F.Sync place patterns) = new_cell patterns
start_of other = Passing

-- what a component keeps between two entries, as the state of its machine
abbrev pub state_of : Keeps → CellState
state_of keeps.Nothing = Passing
state_of (keeps.Records holding) = holding
