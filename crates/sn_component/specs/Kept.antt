-- How a component's node keeps what contracts see of it.
use Rattle.std.specs.Prelude.{List, [], ◌∷◌, Option, None, Some}
use Rattle.sn_stream.specs.declared.item.StreamItem.{StreamItem}
use Rattle.sn_component.specs.declared.component.Component.TheInside.{Inside}
use Rattle.sn_component.specs.Component.{state_of}
use Rattle.sn_component.specs.Seen.{Working}

-- an entry that waits, if one does
abbrev pub entries_of : Option StreamItem → List StreamItem
entries_of None = []
entries_of (Some x) = x ∷ []

abbrev pub working_of : Inside → Working
working_of w = record {
  run = w.run.value;
  path = w.path;
  state = state_of w.keeps;
  input = w.input;
  waiting = entries_of w.waiting;
  output = w.output.put;
  held = w.output.held.items;
}
