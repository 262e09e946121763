-- A clause on an option, weakened.
use Rattle.std.specs.Prelude.{Option, Some, None, MatchOption}

pub MatchOption-weaker : {X P P' : Type 0} {Q Q' : X → Type 0} (o : Option X) → MatchOption o P Q → (P → P') → ((x : X) → Q x → Q' x) → MatchOption o P' Q'
MatchOption-weaker None h at_none at_some = at_none h
MatchOption-weaker (Some x) h at_none at_some = at_some x h
