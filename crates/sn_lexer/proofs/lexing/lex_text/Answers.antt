use Rattle.std.proofs.Common.{rules, refl}
use Rattle.std.proofs.lemmas.Result.{err_from_is_err_and}
use Rattle.sn_lexer.proofs.Passing.{advances_shorter, goes_on, at_end, stopped_is}
use Rattle.sn_lexer.proofs.lexing.lex_text.Goals as goal

pub returns-in_err-next : goal.returns-in_err-next
returns-in_err-next c =
    let p = err_from_is_err_and c.from_residual.result c.from_residual.ensures.1 in
    rw (p.1, p.2) (stopped_is _ _ _ _ _ refl c.utf8.text c.loop-tokens.invariant.1 c.in_err-next.ensures)

pub loop-tokens-smaller : goal.loop-tokens-smaller
loop-tokens-smaller c = advances_shorter _ _ _ _ _ (rw c.in-Some.is at c.in_ok-next.ensures)

pub loop-tokens-preserved : goal.loop-tokens-preserved
loop-tokens-preserved c = (search rules, goes_on _ _ _ _ _ _ c.loop-tokens.invariant.1 (rw c.in-Some.is at c.in_ok-next.ensures))

pub returns : goal.returns
returns c =
    let ends = rw c.in_default.is at c.in_ok-next.ensures in
    record { utf8 = c.utf8.text; lexes = at_end _ _ _ _ _ c.loop-tokens.invariant.1 ends.0 ends.1 }
