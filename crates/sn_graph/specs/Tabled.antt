-- The table of calls in flight.
use Rattle.std.specs.Prelude.{◌≡◌, ℕ, Option, Some, nat_eq}
use Rattle.std.specs.Option.{option_map}
use Rattle.indexmap.specs.IndexMap.{get}
use Rattle.sn_record.specs.Record.{Entries}
use Rattle.sn_view.specs.Calls.{Flies}
use Rattle.sn_view.specs.View.{Emit, Finish, Happening, Local, Merge, Route, Start, Take, Unfold}
use Rattle.sn_graph.specs.Arena.{view_of}
use Rattle.sn_graph.specs.declared.arena.Arena.{Arena}
use Rattle.sn_graph.specs.declared.arena.Place.{Place}

-- the node at which the table has a call
abbrev pub place_node : Arena → ℕ → Option ℕ
place_node arena call = option_map (λ (place : Place). place.node) (get nat_eq arena.places call)

-- the table has each call that is in flight, at its node, and no other
pub record IsTabled (arena : Arena) : Type 0 where
  pub found : (i call : ℕ) (given : Entries) → Flies (view_of arena) i call given → place_node arena call ≡ Some i
  pub flying : (i call : ℕ) → place_node arena call ≡ Some i → ∥ ((given : Entries) × Flies (view_of arena) i call given) ∥₁

-- the event begins no call, and finishes none
abbrev pub LeavesCalls : Happening → Type 0
LeavesCalls Take = Unit {0}
LeavesCalls (Start i) = ⊥
LeavesCalls (Finish call number place given) = ⊥
LeavesCalls (Local i) = Unit {0}
LeavesCalls (Route i) = Unit {0}
LeavesCalls (Unfold i) = Unit {0}
LeavesCalls (Merge i c) = Unit {0}
LeavesCalls Emit = Unit {0}
