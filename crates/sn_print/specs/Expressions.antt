-- The texts of expressions over tags and in boxes.
use Rattle.std.specs.Prelude.{ℕ, Bool, true, false, List, ◌++◌, map, codes}
use Rattle.std.specs.Fmt.{decimal, signed_decimal}
use Rattle.sn_ast.specs.declared.box_expr.BExpr.{BExpr, fold-BExpr}
use Rattle.sn_ast.specs.declared.box_expr.BForm.TheOpen.{BForm-F}
use Rattle.sn_ast.specs.declared.tag_expr.TExpr.{TExpr, fold-TExpr}
use Rattle.sn_ast.specs.declared.tag_expr.TForm.TheOpen.{TForm-F}
use Rattle.sn_lexer.specs.Spelling.{quoted}
use Rattle.sn_print.specs.Words.{in_angles, in_parentheses, joined, operator_text}

-- what a form is to one that it is a direct part of
pub data Rank : Type 0 where
  Alone : Rank
  Compound : Rank
  Sequence : Rank

pub record Shown : Type 0 where
  pub rank : Rank
  pub text : List ℕ

abbrev pub alone : List ℕ → Shown
alone text = record { rank = Alone; text = text }

abbrev pub compound : List ℕ → Shown
compound text = record { rank = Compound; text = text }

abbrev pub is_alone : Rank → Bool
is_alone Alone = true
is_alone Compound = false
is_alone Sequence = false

abbrev pub is_sequence : Rank → Bool
is_sequence Alone = false
is_sequence Compound = false
is_sequence Sequence = true

-- as an operand: in parentheses, but where it stands alone
abbrev pub by_rank : Rank → List ℕ → List ℕ
by_rank Alone text = text
by_rank Compound text = in_parentheses text
by_rank Sequence text = in_parentheses text

abbrev pub operand : Shown → List ℕ
operand e = by_rank e.rank e.text

-- as an argument, or a part of a sequence: in parentheses only where it is a sequence itself
abbrev pub part_by_rank : Rank → List ℕ → List ℕ
part_by_rank Alone text = text
part_by_rank Compound text = text
part_by_rank Sequence text = in_parentheses text

abbrev pub part : Shown → List ℕ
part e = part_by_rank e.rank e.text

abbrev pub arguments : List Shown → List ℕ
arguments es = joined (codes ",") (map part es)

-- one level of an expression over tags
abbrev pub tag_step : TForm-F Shown Shown → Shown
tag_step (TForm-F.Number n) = alone (signed_decimal n)
tag_step (TForm-F.Tag name) = alone (in_angles name.text)
tag_step (TForm-F.Neg e) = compound (codes "-" ++ operand e)
tag_step (TForm-F.Not e) = compound (codes "!" ++ operand e)
tag_step (TForm-F.Op op e f) = compound (operand e ++ (operator_text op ++ operand f))
tag_step (TForm-F.And e f) = compound (operand e ++ (codes " && " ++ operand f))
tag_step (TForm-F.Or e f) = compound (operand e ++ (codes " || " ++ operand f))
tag_step (TForm-F.Cond c e f) = compound (operand c ++ (codes " ? " ++ (operand e ++ (codes " : " ++ operand f))))

abbrev pub tag_shown : TExpr → Shown
tag_shown = fold-TExpr Shown Shown tag_step (λ e. e.form)

abbrev pub tag_text : TExpr → List ℕ
tag_text e = (tag_shown e).text

-- one level of an expression in a box
abbrev pub box_step : BForm-F Shown Shown → Shown
box_step (BForm-F.Number n) = alone (signed_decimal n)
box_step (BForm-F.TextLit text) = alone (quoted text)
box_step (BForm-F.Tag name) = alone (in_angles name.text)
box_step (BForm-F.Name name) = alone name.text
box_step (BForm-F.Neg e) = compound (codes "-" ++ operand e)
box_step (BForm-F.Not e) = compound (codes "!" ++ operand e)
box_step (BForm-F.Op op e f) = compound (operand e ++ (operator_text op ++ operand f))
box_step (BForm-F.And e f) = compound (operand e ++ (codes " && " ++ operand f))
box_step (BForm-F.Or e f) = compound (operand e ++ (codes " || " ++ operand f))
box_step (BForm-F.If c e f) = compound (codes "if " ++ (operand c ++ (codes " then " ++ (operand e ++ (codes " else " ++ operand f)))))
box_step (BForm-F.Let name e f) = compound (codes "let " ++ (name.text ++ (codes " = " ++ (operand e ++ (codes " in " ++ operand f)))))
box_step (BForm-F.Seq es) = record { rank = Sequence; text = joined (codes "; ") (map part es) }
box_step (BForm-F.ListLit es) = alone (codes "[" ++ (arguments es ++ codes "]"))
box_step (BForm-F.Call name es) = alone (name.text ++ (codes "(" ++ (arguments es ++ codes ")")))
box_step (BForm-F.Out number es) = alone (codes "out " ++ (decimal number ++ (codes "(" ++ (arguments es ++ codes ")"))))

abbrev pub box_shown : BExpr → Shown
box_shown = fold-BExpr Shown Shown box_step (λ e. e.form)

abbrev pub box_text : BExpr → List ℕ
box_text e = (box_shown e).text
