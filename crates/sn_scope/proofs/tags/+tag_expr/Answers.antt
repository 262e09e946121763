use Rattle.std.proofs.Common.{◌≡◌, IfOk, sym, ap, ◌∙◌, subst}
use Rattle.std.proofs.lemmas.Result.{IfOk-weaker}
use Rattle.sn_ast.specs.declared.tag_expr.TForm.TheOpen.{TForm-F}
use Rattle.sn_ast.specs.declared.tag_expr.TForm.TheVariants as form
use Rattle.sn_names.specs.Names.{label_number}
use Rattle.sn_label_scope.specs.Operators.{bin_op}
use Rattle.sn_scope.specs.Tags.{tag_expr}
use Rattle.sn_tagexpr.specs.declared.expr.TagExpr.TheVariants.{Tag, Neg, Not, Op, And, Or, Cond}
use Rattle.sn_scope.specs.Joints.{joined}
use Rattle.sn_scope.specs.declared.tags.Joint.TheVariants as joint
use Rattle.sn_scope.proofs.Forms.{tag_level}
use Rattle.sn_scope.proofs.tags.+tag_expr.Goals as goal

pub tag_expr-returns-in-Tag : goal.tag_expr-returns-in-Tag
tag_expr-returns-in-Tag t c =
    ap Tag (c.label_number.ensures ∙ ap (label_number c.args.names.now) c.as_slice.ensures)
    ∙ sym (tag_level c.args.names.now c.args.e.now (TForm-F.Tag c.in-Tag.tag) _ c.in-Tag.is (form.rolls-Tag c.in-Tag.tag))

pub tag_expr-returns-in_ok-boxed_expr-in-Neg : goal.tag_expr-returns-in_ok-boxed_expr-in-Neg
tag_expr-returns-in_ok-boxed_expr-in-Neg t c =
    let names = c.args.names.now in
    ap Neg (c.in_ok-boxed_expr-in-Neg.ensures ∙ ap (tag_expr names) c.get.ensures)
    ∙ sym (tag_level names c.args.e.now (TForm-F.Neg c.in-Neg.part) _ c.in-Neg.is (form.rolls-Neg c.in-Neg.part))

pub tag_expr-returns-in_ok-boxed_expr-in-Not : goal.tag_expr-returns-in_ok-boxed_expr-in-Not
tag_expr-returns-in_ok-boxed_expr-in-Not t c =
    let names = c.args.names.now in
    ap Not (c.in_ok-boxed_expr-in-Not.ensures ∙ ap (tag_expr names) c.get-in-Not.ensures)
    ∙ sym (tag_level names c.args.e.now (TForm-F.Not c.in-Not.part) _ c.in-Not.is (form.rolls-Not c.in-Not.part))

pub tag_expr-returns-in-Op : goal.tag_expr-returns-in-Op
tag_expr-returns-in-Op t c =
    let names = c.args.names.now in
    let left = c.in-Op.left in
    let right = c.in-Op.right in
    let parts = c.boxed_pair.result in
    let is_left : IfOk parts (λ pair. pair.0 ≡ tag_expr names left) = subst (λ e. IfOk parts (λ pair. pair.0 ≡ tag_expr names e)) c.get-in-Op.ensures c.boxed_pair.ensures.left in
    let is_right : IfOk parts (λ pair. pair.1 ≡ tag_expr names right) = subst (λ e. IfOk parts (λ pair. pair.1 ≡ tag_expr names e)) c.get-in-Op-2.ensures c.boxed_pair.ensures.right in
    IfOk-weaker c.join.result _ _
    (λ made is. is ∙ ap (λ o. joined (joint.Op o) (tag_expr names left) (tag_expr names right)) c.bin_op.ensures ∙ sym (tag_level names c.args.e.now (TForm-F.Op c.in-Op.operator left right) _ c.in-Op.is (form.rolls-Op c.in-Op.operator left right)))
    (c.join.ensures (tag_expr names left) (tag_expr names right) is_left is_right)

pub tag_expr-returns-in-And : goal.tag_expr-returns-in-And
tag_expr-returns-in-And t c =
    let names = c.args.names.now in
    let left = c.in-And.left in
    let right = c.in-And.right in
    let parts = c.boxed_pair-in-And.result in
    let is_left : IfOk parts (λ pair. pair.0 ≡ tag_expr names left) = subst (λ e. IfOk parts (λ pair. pair.0 ≡ tag_expr names e)) c.get-in-And.ensures c.boxed_pair-in-And.ensures.left in
    let is_right : IfOk parts (λ pair. pair.1 ≡ tag_expr names right) = subst (λ e. IfOk parts (λ pair. pair.1 ≡ tag_expr names e)) c.get-in-And-2.ensures c.boxed_pair-in-And.ensures.right in
    IfOk-weaker c.join-in-And.result _ _
    (λ made is. is ∙ sym (tag_level names c.args.e.now (TForm-F.And left right) _ c.in-And.is (form.rolls-And left right)))
    (c.join-in-And.ensures (tag_expr names left) (tag_expr names right) is_left is_right)

pub tag_expr-returns-in-Or : goal.tag_expr-returns-in-Or
tag_expr-returns-in-Or t c =
    let names = c.args.names.now in
    let left = c.in-Or.left in
    let right = c.in-Or.right in
    let parts = c.boxed_pair-in-Or.result in
    let is_left : IfOk parts (λ pair. pair.0 ≡ tag_expr names left) = subst (λ e. IfOk parts (λ pair. pair.0 ≡ tag_expr names e)) c.get-in-Or.ensures c.boxed_pair-in-Or.ensures.left in
    let is_right : IfOk parts (λ pair. pair.1 ≡ tag_expr names right) = subst (λ e. IfOk parts (λ pair. pair.1 ≡ tag_expr names e)) c.get-in-Or-2.ensures c.boxed_pair-in-Or.ensures.right in
    IfOk-weaker c.join-in-Or.result _ _
    (λ made is. is ∙ sym (tag_level names c.args.e.now (TForm-F.Or left right) _ c.in-Or.is (form.rolls-Or left right)))
    (c.join-in-Or.ensures (tag_expr names left) (tag_expr names right) is_left is_right)

pub tag_expr-returns-in_ok-left-in-Cond : goal.tag_expr-returns-in_ok-left-in-Cond
tag_expr-returns-in_ok-left-in-Cond t c =
    let names = c.args.names.now in
    let test = c.in_ok-test-in-Cond in
    let made = c.in_ok-left-in-Cond in
    ap (λ e. Cond e made.left made.right) (test.ensures ∙ ap (tag_expr names) c.get-in-Cond.ensures)
    ∙ ap (λ e. Cond (tag_expr names c.in-Cond.test) e made.right) (made.ensures.left ∙ ap (tag_expr names) c.get-in-Cond-2.ensures)
    ∙ ap (Cond (tag_expr names c.in-Cond.test) (tag_expr names c.in-Cond.left)) (made.ensures.right ∙ ap (tag_expr names) c.get-in-Cond-3.ensures)
    ∙ sym (tag_level names c.args.e.now (TForm-F.Cond c.in-Cond.test c.in-Cond.left c.in-Cond.right) _ c.in-Cond.is (form.rolls-Cond c.in-Cond.test c.in-Cond.left c.in-Cond.right))
