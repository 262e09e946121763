use Rattle.std.proofs.Common.{◌+◌, ◌*◌, max}
use Rattle.sn_ast.proofs.tag_expr.TExpr.TheLaws.{the_size}
use Rattle.sn_scope.proofs.tags.+tag_expr.Given as goal

abbrev pub decreases-tag_expr : goal.decreases-tag_expr
decreases-tag_expr l = 4 * goal.size-tag_expr l

abbrev pub decreases-boxed_expr : goal.decreases-boxed_expr
decreases-boxed_expr l = 4 * goal.size-boxed_expr l + 1

abbrev pub decreases-boxed_pair : goal.decreases-boxed_pair
decreases-boxed_pair l = 4 * max (the_size l.left.now) (the_size l.right.now) + 2
