use Rattle.std.proofs.Common.{◌≡◌, length}
use Rattle.sn_expr_parser.specs.Levels.{signed}
use Rattle.sn_expr_parser.proofs.level.with_signs.Given as goal

abbrev pub invariant-loop-sign : goal.invariant-loop-sign
invariant-loop-sign g l = signed g.E.Expression.operations l.signs l.part ≡ signed g.E.Expression.operations l.fn.signs l.fn.part

abbrev pub decreases-loop-sign : goal.decreases-loop-sign
decreases-loop-sign g l = length l.signs
