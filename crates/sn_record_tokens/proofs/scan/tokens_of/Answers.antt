use Rattle.std.proofs.Common.{rules, ap, ◌∙◌}
use Rattle.std.specs.Prelude.{Err}
use Rattle.std.proofs.lemmas.Result.{err_from_is_err_and}
use Rattle.sn_record_tokens.proofs.Once.{Tokens_once}
use Rattle.sn_record_tokens.proofs.Walks.{at_start, advances_shorter, goes_on, at_end, stopped}
use Rattle.sn_record_tokens.proofs.scan.tokens_of.Goals as goal

pub loop-tokens-init : goal.loop-tokens-init
loop-tokens-init c = (search rules, at_start _ _ c.in_ok-tokens.ensures)

pub loop-tokens-smaller : goal.loop-tokens-smaller
loop-tokens-smaller c = advances_shorter _ _ _ _ (rw c.in-Some.is at c.in_ok-next.ensures)

pub loop-tokens-preserved : goal.loop-tokens-preserved
loop-tokens-preserved c = (search rules, goes_on _ _ _ _ _ c.loop-tokens.invariant.1 (rw c.in-Some.is at c.in_ok-next.ensures))

pub returns-in_err-next-clause-wrong : goal.returns-in_err-next-clause-wrong
returns-in_err-next-clause-wrong c =
    let p = err_from_is_err_and c.from_residual-in_err-next.result c.from_residual-in_err-next.ensures.1 in
    stopped _ _ _ _ _ c.loop-tokens.invariant.1 c.in_err-next.ensures (p.1 ∙ ap Err p.2)

pub returns-clause-answer : goal.returns-clause-answer
returns-clause-answer c =
    let ends = rw c.in_default.is at c.in_ok-next.ensures in
    at_end _ _ _ _ c.loop-tokens.invariant.1 ends.0 ends.1

pub returns-clause-once : goal.returns-clause-once
returns-clause-once c =
    let ends = rw c.in_default.is at c.in_ok-next.ensures in
    λ tokens. Tokens_once _ _ _ (at_end _ _ _ _ c.loop-tokens.invariant.1 ends.0 ends.1)
