use Rattle.std.proofs.Common.{rules, subst}
use Rattle.std.specs.Str.{chars}
use Rattle.sn_lexer.specs.Lexes.{IsTextUpTo}
use Rattle.sn_lexer.specs.Lexes.IsWrong.{open_text, bad_escape}
use Rattle.sn_lexer.proofs.Contents.{text_more}
use Rattle.sn_lexer.proofs.Tokens.{text_token}
use Rattle.sn_lexer.proofs.quoted.read_text.Goals as goal

pub loop-next-preserved : goal.loop-next-preserved
loop-next-preserved c = (search rules, text_more _ c.in-Goes.ensures.0 _ _ c.loop-next.invariant.1 c.in-Goes.ensures.1 c.in-Goes.ensures.2)

pub returns-in-Closes : goal.returns-in-Closes
returns-in-Closes c = text_token _ _ (subst (IsTextUpTo (chars c.args.text.now)) c.in-Closes.ensures c.loop-next.invariant.1)

pub returns-in-Open : goal.returns-in-Open
returns-in-Open c = rw c.place.ensures (open_text c.loop-next.invariant.1 c.in-Open.ensures)

pub returns-in-Wrong : goal.returns-in-Wrong
returns-in-Wrong c = rw c.place-in-Wrong.ensures (bad_escape c.loop-next.invariant.1 c.in-Wrong.ensures)
