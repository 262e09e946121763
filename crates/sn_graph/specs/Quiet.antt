-- What an event leaves alone of what no contract of the view sees.
use Rattle.std.specs.Prelude.{◌≡◌}
use Rattle.sn_graph.specs.declared.arena.Arena.{Arena}

-- where calls were begun, and the agenda, are as they were
pub record IsQuiet (old new : Arena) : Type 0 where
  pub places : new.places ≡ old.places
  pub agenda : new.agenda ≡ old.agenda
