use Rattle.std.proofs.Common.{refl}
use Rattle.sn_place.proofs.Around.{joined}
use Rattle.sn_place.proofs.line.line_around.Goals as goal

pub returns-clause-line : goal.returns-clause-line
returns-clause-line c =
    rw (joined c.args.text.now c.line_start.result c.args.at c.line_end.result c.line_start.ensures.before c.line_end.ensures.after)
    (rw (c.line_start.ensures.front, c.line_end.ensures.behind) refl)
