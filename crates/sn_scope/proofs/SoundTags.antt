-- Expressions over tags: where no tag of one is refused, each is among the labels.
use Rattle.std.proofs.Common.{ℕ, Bool, ◌&&◌, IsTrue, List, sym, ap, ◌∙◌, subst, subst₂}
use Rattle.std.proofs.lemmas.Bool.{and_from}
use Rattle.sn_ast.specs.declared.tag_expr.TExpr.{TExpr, fold-roll-TExpr}
use Rattle.sn_ast.specs.declared.tag_expr.TForm.{TForm, fold-TForm}
use Rattle.sn_ast.specs.declared.tag_expr.TForm.TheFolds.{fold-roll-TForm, ind-TExpr, map-TForm}
use Rattle.sn_ast.specs.declared.tag_expr.TForm.TheOpen.{TForm-F}
use Rattle.sn_ast.specs.declared.tag_expr.TForm.TheViews.{roll-TForm, roll-TExpr}
use Rattle.sn_names.specs.Names.{label_number}
use Rattle.sn_net.specs.Filter.{is_over, tag}
use Rattle.sn_tagexpr.specs.Evaluation.{every_tag_step}
use Rattle.sn_record.specs.LabelSet.{Labels, contains}
use Rattle.sn_label_scope.specs.Operators.{bin_op}
use Rattle.sn_label_scope.specs.Refusals.{Check}
use Rattle.sn_scope.specs.Tags.{tag_expr, tag_step, tags_required, tags_step}
use Rattle.sn_label_scope.specs.declared.refusal.Reason.{Reason}
use Rattle.sn_label_scope.proofs.Checks.{Tells, required_tells, tells_both, tells_weaker}
use Rattle.sn_tagexpr.specs.declared.expr.TagExpr.{TagExpr, fold-roll-TagExpr}
use Rattle.sn_tagexpr.specs.declared.expr.TagExpr.TheOpen.{TagExpr-F}
use Rattle.sn_tagexpr.specs.declared.expr.TagExpr.TheVariants as made

module _ (names : List (List ℕ)) (pattern : Labels) (reason : Reason) where
  abbrev Over : TagExpr → Type 0
  Over e = IsTrue (is_over pattern e)

  -- one level of it
  abbrev over_step : TagExpr-F Bool → Bool
  over_step = every_tag_step (λ id. contains pattern (tag id))

  -- the check and the expression of a form
  abbrev form_check : TForm → Check
  form_check = fold-TForm Check Check (tags_step names pattern reason) (λ e. e.form)

  abbrev form_expr : TForm → TagExpr
  form_expr = fold-TForm TagExpr TagExpr (tag_step names) (λ e. e.form)

  abbrev check_of : TExpr → Check
  check_of = tags_required names pattern reason

  abbrev expr_of : TExpr → TagExpr
  expr_of = tag_expr names

  abbrev FormTells : TForm → Type 0
  FormTells form = Tells (form_check form) (Over (form_expr form))

  abbrev ExprTells : TExpr → Type 0
  ExprTells e = Tells (check_of e) (Over (expr_of e))

  -- one level, where it tells over the checks and expressions of its parts
  level : (x : TForm-F TForm TExpr) → Tells (tags_step names pattern reason (map-TForm TForm TExpr Check Check form_check check_of x)) (Over (tag_step names (map-TForm TForm TExpr TagExpr TagExpr form_expr expr_of x)))
      → FormTells (roll-TForm x)
  level x told = subst₂ (λ check e. Tells check (Over e)) (sym (fold-roll-TForm Check Check (tags_step names pattern reason) (λ e. e.form) x)) (sym (fold-roll-TForm TagExpr TagExpr (tag_step names) (λ e. e.form) x)) told

  -- an expression is over the labels where its parts are
  over_neg : (e : TagExpr) → Over e → Over (made.Neg e)
  over_neg e over = ap (is_over pattern) (sym (made.rolls-Neg e)) ∙ fold-roll-TagExpr _ over_step (TagExpr-F.Neg e) ∙ over

  over_not : (e : TagExpr) → Over e → Over (made.Not e)
  over_not e over = ap (is_over pattern) (sym (made.rolls-Not e)) ∙ fold-roll-TagExpr _ over_step (TagExpr-F.Not e) ∙ over

  over_op : (op : _) (e f : TagExpr) → Over e × Over f → Over (made.Op op e f)
  over_op op e f over = ap (is_over pattern) (sym (made.rolls-Op op e f)) ∙ fold-roll-TagExpr _ over_step (TagExpr-F.Op op e f) ∙ and_from (is_over pattern e) (is_over pattern f) over.0 over.1

  over_and : (e f : TagExpr) → Over e × Over f → Over (made.And e f)
  over_and e f over = ap (is_over pattern) (sym (made.rolls-And e f)) ∙ fold-roll-TagExpr _ over_step (TagExpr-F.And e f) ∙ and_from (is_over pattern e) (is_over pattern f) over.0 over.1

  over_or : (e f : TagExpr) → Over e × Over f → Over (made.Or e f)
  over_or e f over = ap (is_over pattern) (sym (made.rolls-Or e f)) ∙ fold-roll-TagExpr _ over_step (TagExpr-F.Or e f) ∙ and_from (is_over pattern e) (is_over pattern f) over.0 over.1

  over_cond : (c e f : TagExpr) → (Over c × Over e) × Over f → Over (made.Cond c e f)
  over_cond c e f over = ap (is_over pattern) (sym (made.rolls-Cond c e f)) ∙ fold-roll-TagExpr _ over_step (TagExpr-F.Cond c e f)
      ∙ and_from (is_over pattern c) (is_over pattern e && is_over pattern f) over.0.0 (and_from (is_over pattern e) (is_over pattern f) over.0.1 over.1)

  two : (e f : TExpr) → ExprTells e → ExprTells f → Tells (λ least. check_of f (check_of e least)) (Over (expr_of e) × Over (expr_of f))
  two e f = tells_both (check_of e) (check_of f) (Over (expr_of e)) (Over (expr_of f))

  -- where no tag of the expression is refused, each is among the labels
  pub tags_tell : (e : TExpr) → Tells (tags_required names pattern reason e) (IsTrue (is_over pattern (tag_expr names e)))
  tags_tell = ind-TExpr FormTells ExprTells
      (λ x y is. subst (λ z. FormTells (roll-TForm z)) is (level (map-TForm _ _ TForm TExpr (λ e. e.0) (λ e. e.0) y) (elim y as (λ z. Tells
      (tags_step names pattern reason (map-TForm TForm TExpr Check Check form_check check_of (map-TForm _ _ TForm TExpr (λ e. e.0) (λ e. e.0) z)))
      (Over (tag_step names (map-TForm TForm TExpr TagExpr TagExpr form_expr expr_of (map-TForm _ _ TForm TExpr (λ e. e.0) (λ e. e.0) z))))) [
        | TForm-F.Number n ↦ λ least none. (none, ap (is_over pattern) (sym (made.rolls-Number n)) ∙ fold-roll-TagExpr _ over_step (TagExpr-F.Number n))
        | TForm-F.Tag name ↦ tells_weaker _ _ _ (required_tells (contains pattern (tag (label_number names name.text))) reason name.at)
            (λ there. ap (is_over pattern) (sym (made.rolls-Tag (label_number names name.text))) ∙ fold-roll-TagExpr _ over_step (TagExpr-F.Tag (label_number names name.text)) ∙ there)
        | TForm-F.Neg e ↦ tells_weaker (check_of e.0) (Over (expr_of e.0)) _ e.1 (over_neg (expr_of e.0))
        | TForm-F.Not e ↦ tells_weaker (check_of e.0) (Over (expr_of e.0)) _ e.1 (over_not (expr_of e.0))
        | TForm-F.Op o e f ↦ tells_weaker _ _ _ (two e.0 f.0 e.1 f.1) (over_op (bin_op o) (expr_of e.0) (expr_of f.0))
        | TForm-F.And e f ↦ tells_weaker _ _ _ (two e.0 f.0 e.1 f.1) (over_and (expr_of e.0) (expr_of f.0))
        | TForm-F.Or e f ↦ tells_weaker _ _ _ (two e.0 f.0 e.1 f.1) (over_or (expr_of e.0) (expr_of f.0))
        | TForm-F.Cond c e f ↦ tells_weaker _ _ _ (tells_both (λ least. check_of e.0 (check_of c.0 least)) (check_of f.0) _ _ (two c.0 e.0 c.1 e.1) f.1) (over_cond (expr_of c.0) (expr_of e.0) (expr_of f.0))
      ])))
      (λ x y is. subst (λ z. ExprTells (roll-TExpr z)) is
      (subst₂ (λ check e. Tells check (Over e))
      (sym (fold-roll-TExpr Check Check (tags_step names pattern reason) (λ e. e.form) (record { at = y.at; form = y.form.0 })))
      (sym (fold-roll-TExpr TagExpr TagExpr (tag_step names) (λ e. e.form) (record { at = y.at; form = y.form.0 }))) y.form.1))
