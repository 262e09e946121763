-- Expressions over tags by the numbers of the tags.
use Rattle.std.specs.Prelude.{ℕ, List}
use Rattle.sn_ast.specs.declared.tag_expr.TExpr.{TExpr, fold-TExpr}
use Rattle.sn_ast.specs.declared.tag_expr.TForm.TheOpen.{TForm-F}
use Rattle.sn_record.specs.LabelSet.{Labels, contains}
use Rattle.sn_tagexpr.specs.declared.expr.TagExpr.{TagExpr}
use Rattle.sn_tagexpr.specs.declared.expr.TagExpr.TheVariants.{Number, Tag, Neg, Not, Op, And, Or, Cond}
use Rattle.sn_names.specs.Names.{label_number}
use Rattle.sn_net.specs.Filter.{tag}
use Rattle.sn_label_scope.specs.Operators.{bin_op}
use Rattle.sn_label_scope.specs.Refusals.{Check, required}
use Rattle.sn_label_scope.specs.declared.refusal.Reason.{Reason}

-- one level, with each part by its numbers in its place
abbrev pub tag_step : List (List ℕ) → TForm-F TagExpr TagExpr → TagExpr
tag_step names (TForm-F.Number n) = Number n
tag_step names (TForm-F.Tag name) = Tag (label_number names name.text)
tag_step names (TForm-F.Neg e) = Neg e
tag_step names (TForm-F.Not e) = Not e
tag_step names (TForm-F.Op o e f) = Op (bin_op o) e f
tag_step names (TForm-F.And e f) = And e f
tag_step names (TForm-F.Or e f) = Or e f
tag_step names (TForm-F.Cond c e f) = Cond c e f

-- the expression with each tag by the number of its name
abbrev pub tag_expr : List (List ℕ) → TExpr → TagExpr
tag_expr names = fold-TExpr TagExpr TagExpr (tag_step names) (λ e. e.form)

-- one level, with what each part adds in its place
abbrev pub tags_step : List (List ℕ) → Labels → Reason → TForm-F Check Check → Check
tags_step names pattern reason (TForm-F.Number n) least = least
tags_step names pattern reason (TForm-F.Tag name) least = required (contains pattern (tag (label_number names name.text))) reason name.at least
tags_step names pattern reason (TForm-F.Neg e) least = e least
tags_step names pattern reason (TForm-F.Not e) least = e least
tags_step names pattern reason (TForm-F.Op o e f) least = f (e least)
tags_step names pattern reason (TForm-F.And e f) least = f (e least)
tags_step names pattern reason (TForm-F.Or e f) least = f (e least)
tags_step names pattern reason (TForm-F.Cond c e f) least = f (e (c least))

-- each tag of the expression is in the pattern
abbrev pub tags_required : List (List ℕ) → Labels → Reason → TExpr → Check
tags_required names pattern reason = fold-TExpr Check Check (tags_step names pattern reason) (λ e. e.form)
