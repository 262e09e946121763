use Rattle.std.proofs.Common.{◌≡◌, ◌+◌, ◌*◌, max, take, drop, map}
use Rattle.sn_ast.proofs.box_expr.BExpr.TheLaws.{the_size}
use Rattle.sn_box_scope.specs.Expressions.{expr_at, expr_required, parts_over, parts_required}
use Rattle.sn_box_scope.proofs.expressions.+expr_at.Given as goal

abbrev pub invariant-parts_at-loop-part : goal.invariant-parts_at-loop-part
invariant-parts_at-loop-part l =
    (l.made ≡ parts_over (map (expr_at l.scope) (take l.part-index l.parts)) l.initial.variables)
    × (parts_required (map (expr_required l.scope) (drop l.part-index l.parts)) l.initial.variables l.refusals ≡ parts_required (map (expr_required l.scope) l.parts) l.initial.variables l.initial.refusals)
    × (l.variables ≡ l.initial.variables)

abbrev pub decreases-expr_at : goal.decreases-expr_at
decreases-expr_at l = 4 * goal.size-expr_at l

abbrev pub decreases-boxed_at : goal.decreases-boxed_at
decreases-boxed_at l = 4 * goal.size-boxed_at l + 1

abbrev pub decreases-parts_at : goal.decreases-parts_at
decreases-parts_at l = 4 * goal.size-parts_at l + 1

abbrev pub decreases-rest_at : goal.decreases-rest_at
decreases-rest_at l = 4 * goal.size-rest_at l + 2

abbrev pub decreases-pair_at : goal.decreases-pair_at
decreases-pair_at l = 4 * max (the_size l.left.now) (the_size l.right.now) + 2
