use Rattle.std.proofs.Common.{◌≡◌, sym, ap, ◌∙◌}
use Rattle.std.proofs.lemmas.Result.{IfOk-at_ok}
use Rattle.sn_tagexpr.specs.declared.expr.TagExpr.TheVariants.{Op, And, Or}
use Rattle.sn_scope.specs.Joints.{joined}
use Rattle.sn_scope.proofs.tags.join.Goals as goal

pub returns-in-Op : goal.returns-in-Op
returns-in-Op c left right is_left is_right =
    let parts = c.in_ok-left in
    ap (λ e. Op c.in-Op.operator e parts.right) (IfOk-at_ok (λ pair. pair.0 ≡ left) parts.was is_left) ∙ ap (Op c.in-Op.operator left) (IfOk-at_ok (λ pair. pair.1 ≡ right) parts.was is_right)
    ∙ ap (λ j. joined j left right) (sym c.in-Op.is)

pub returns-in-And : goal.returns-in-And
returns-in-And c left right is_left is_right =
    let parts = c.in_ok-left in
    ap (λ e. And e parts.right) (IfOk-at_ok (λ pair. pair.0 ≡ left) parts.was is_left) ∙ ap (And left) (IfOk-at_ok (λ pair. pair.1 ≡ right) parts.was is_right)
    ∙ ap (λ j. joined j left right) (sym c.in-And.is)

pub returns-in-Or : goal.returns-in-Or
returns-in-Or c left right is_left is_right =
    let parts = c.in_ok-left in
    ap (λ e. Or e parts.right) (IfOk-at_ok (λ pair. pair.0 ≡ left) parts.was is_left) ∙ ap (Or left) (IfOk-at_ok (λ pair. pair.1 ≡ right) parts.was is_right)
    ∙ ap (λ j. joined j left right) (sym c.in-Or.is)
