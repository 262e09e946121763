use Rattle.std.proofs.Common.{sym, ◌∙◌, refl}
use Rattle.sn_record_tokens.specs.Reading.Advances.{past_blank, past_token}
use Rattle.sn_record_tokens.proofs.Walks.{no_tokens}
use Rattle.sn_record_tokens.proofs.scan.read_next.Goals as goal

pub returns-then-is_blank : goal.returns-then-is_blank
returns-then-is_blank c = past_blank (sym c.is_blank.ensures ∙ c.if-is_blank.true) c.in-Some.ensures refl

pub returns-in_default-2 : goal.returns-in_default-2
returns-in_default-2 c = no_tokens _ _ _ c.in-Some.ensures (sym c.is_blank.ensures ∙ c.if-is_blank.false) (rw c.in_default-2.is at c.in_ok-token.ensures)

pub returns : goal.returns
returns c = past_token (rw c.in-Some-2.is at c.in_ok-token.ensures) c.in-Ok.ensures.ok
