use Rattle.std.proofs.Common.{arith}
use Rattle.sn_place.proofs.Around.{front_is, feed}
use Rattle.sn_place.proofs.line.line_start.Goals as goal

pub returns-else-text-start-ne10-clause-front : goal.returns-else-text-start-ne10-clause-front
returns-else-text-start-ne10-clause-front c =
    let kept = c.loop-start.invariant in
    front_is c.args.text.now c.loop-start.start c.args.at kept.0 c.requires kept.1 (λ some. feed _ c.if-text-start-ne10.false)

pub returns-after-loop-start-clause-front : goal.returns-after-loop-start-clause-front
returns-after-loop-start-clause-front c =
    let kept = c.loop-start.invariant in
    front_is c.args.text.now c.loop-start.start c.args.at kept.0 c.requires kept.1 (λ some. absurd (omega arith))
