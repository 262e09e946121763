use Rattle.std.proofs.lemmas.Result.{MatchResult-weaker}
use Rattle.sn_lexer.proofs.Once.{only_tokens, only_refusal}
use Rattle.sn_lexer.proofs.Places.{source_placed}
use Rattle.sn_lexer.proofs.lexing.lex.Goals as goal

pub returns-in-Ok-clause-tokens : goal.returns-in-Ok-clause-tokens
returns-in-Ok-clause-tokens c = only_tokens _ _ (rw c.in-Ok.ensures.cases.0 at c.lex_text.ensures)

pub returns-in-Ok-clause-refused : goal.returns-in-Ok-clause-refused
returns-in-Ok-clause-refused c = only_refusal _ _ (rw c.in-Ok.ensures.cases.0 at c.lex_text.ensures)

pub returns-in-Ok-clause-placed : goal.returns-in-Ok-clause-placed
returns-in-Ok-clause-placed c = MatchResult-weaker c.lex_text.result (rw c.in-Ok.ensures.cases.0 at c.lex_text.ensures) (source_placed _) (λ fault h. tt)
