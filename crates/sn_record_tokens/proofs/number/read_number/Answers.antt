use Rattle.sn_lexer.proofs.Options.{MatchOption-weaker}
use Rattle.sn_record_tokens.proofs.Numbers.{minus_token, plain_token, no_number_minus, no_number_plain}
use Rattle.sn_record_tokens.proofs.number.read_number.Goals as goal

pub returns-in-Some : goal.returns-in-Some
returns-in-Some c = MatchOption-weaker c.read_sized.result c.read_sized.ensures (no_number_minus _ _ c.in-Some.ensures) (λ p s. minus_token _ _ _ _ c.in-Some.ensures s)

pub returns-in-None : goal.returns-in-None
returns-in-None c = MatchOption-weaker c.read_sized-in-None.result c.read_sized-in-None.ensures (no_number_plain _ c.in-None.ensures) (λ p s. plain_token _ _ _ s)
