use Rattle.std.proofs.Common.{sym, ◌∙◌, refl}
use Rattle.sn_lexer.specs.Fronts.Advances.{past_gap}
use Rattle.sn_lexer.proofs.Passing.{blank_gap, passes_token}
use Rattle.sn_lexer.proofs.lexing.read_next.Goals as goal

pub returns-then-is_blank : goal.returns-then-is_blank
returns-then-is_blank c = past_gap (blank_gap _ _ _ c.in-Some.ensures (sym c.is_blank.ensures ∙ c.if-is_blank.true)) refl

pub returns-in-Some-2 : goal.returns-in-Some-2
returns-in-Some-2 c = past_gap (rw c.in-Some-2.is at c.in_ok-rest.ensures) refl

pub returns-in-Ok : goal.returns-in-Ok
returns-in-Ok c = passes_token _ _ _ _ _ _ _ _ c.in_ok-kind.ensures c.place.ensures c.place-2.ensures c.in-Ok.ensures.ok
