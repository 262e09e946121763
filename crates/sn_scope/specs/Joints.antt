-- Two expressions over tags and the operator between them.
use Rattle.sn_tagexpr.specs.declared.expr.TagExpr.{TagExpr}
use Rattle.sn_tagexpr.specs.declared.expr.TagExpr.TheVariants as expr
use Rattle.sn_scope.specs.declared.tags.Joint.{Joint}
use Rattle.sn_scope.specs.declared.tags.Joint.TheVariants as joint

abbrev pub joined : Joint → TagExpr → TagExpr → TagExpr
joined (joint.Op operator) left right = expr.Op operator left right
joined joint.And left right = expr.And left right
joined joint.Or left right = expr.Or left right
