-- The states of dispatchers, and what a deterministic one serves next.
use Rattle.std.specs.Prelude.{ℕ, Bool, true, false, Option, None, Some}
use Rattle.sn_streams.specs.Keys.{Key as StreamKey, key_eq}
use Rattle.sn_view.specs.Epochs.{stands_at_output}
use Rattle.sn_view.specs.View.{Entry, It, Mark, End, Turn, To, Own, State, InTurn, Freely, Child, first_of}

abbrev pub is_in_turn : State → Bool
is_in_turn (InTurn ds) = true
is_in_turn other = false

abbrev pub is_freely : State → Bool
is_freely (Freely e) = true
is_freely other = false

-- the decision that is to be served next
abbrev pub first_turn : State → Option (Entry Turn)
first_turn (InTurn ds) = first_of ds
first_turn other = None

-- it passes the children by
abbrev pub is_own : Option (Entry Turn) → Bool
is_own None = false
is_own (Some (It (To k))) = false
is_own (Some (It (Own y))) = true
is_own (Some Mark) = true
is_own (Some End) = true

-- the key of the child whose group is served
abbrev pub turn_key : Option (Entry Turn) → Option StreamKey
turn_key (Some (It (To k))) = Some k
turn_key (Some (It (Own y))) = None
turn_key (Some Mark) = None
turn_key (Some End) = None
turn_key None = None

abbrev pub has_key_at : StreamKey → Option Child → Bool
has_key_at k None = false
has_key_at k (Some child) = key_eq k child.key

-- the child of a free dispatcher stands in the output's epoch
abbrev pub free_at : State → ℕ → Bool
free_at (Freely e) c = stands_at_output e c
free_at other c = false
