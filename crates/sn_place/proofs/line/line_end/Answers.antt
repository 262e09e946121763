use Rattle.std.proofs.Common.{arith}
use Rattle.sn_place.proofs.Around.{behind_is, feed}
use Rattle.sn_place.proofs.line.line_end.Goals as goal

pub returns-else-text-end-ne10-clause-behind : goal.returns-else-text-end-ne10-clause-behind
returns-else-text-end-ne10-clause-behind c =
    let kept = c.loop-end.invariant in
    behind_is c.args.text.now c.args.at c.loop-end.end kept.0 kept.1 kept.2 (λ more. feed _ c.if-text-end-ne10.false)

pub returns-after-loop-end-clause-behind : goal.returns-after-loop-end-clause-behind
returns-after-loop-end-clause-behind c =
    let kept = c.loop-end.invariant in
    behind_is c.args.text.now c.args.at c.loop-end.end kept.0 kept.1 kept.2 (λ more. absurd (omega arith))
