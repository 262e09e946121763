-- What operators and signs make of their operands, in both expression languages.
use Rattle.std.specs.Prelude.{ℕ}
use Rattle.sn_ast.specs.Measures.{Measuring}
use Rattle.sn_ast.specs.declared.box_expr.BExpr.{BExpr}
use Rattle.sn_ast.specs.declared.box_expr.BForm.TheVariants as box_form
use Rattle.sn_ast.specs.declared.tag_expr.Operator.{Operator}
use Rattle.sn_ast.specs.declared.tag_expr.TExpr.{TExpr}
use Rattle.sn_ast.specs.declared.tag_expr.TForm.TheVariants as tag_form
use Rattle.sn_ast.specs.declared.terminal.Sign.{Sign}
use Rattle.sn_ast.specs.declared.terminal.Sign.TheVariants.{Minus, Not}

-- The nodes that both languages have, each over the place of its operator.
pub record Operations (E : Type 0) : Type 0 where
  pub sign : Sign → ℕ → E → E
  pub op : Operator → ℕ → E → E → E
  pub and : ℕ → E → E → E
  pub or : ℕ → E → E → E

abbrev tag_sign : Sign → ℕ → TExpr → TExpr
tag_sign Minus at e = record { at = at; form = tag_form.Neg e }
tag_sign Not at e = record { at = at; form = tag_form.Not e }

abbrev pub tag_operations : Operations TExpr
tag_operations = record {
  sign = tag_sign;
  op = λ o at e f. record { at = at; form = tag_form.Op o e f };
  and = λ at e f. record { at = at; form = tag_form.And e f };
  or = λ at e f. record { at = at; form = tag_form.Or e f };
}

abbrev box_sign : Sign → ℕ → BExpr → BExpr
box_sign Minus at e = record { at = at; form = box_form.Neg e }
box_sign Not at e = record { at = at; form = box_form.Not e }

abbrev pub box_operations : Operations BExpr
box_operations = record {
  sign = box_sign;
  op = λ o at e f. record { at = at; form = box_form.Op o e f };
  and = λ at e f. record { at = at; form = box_form.And e f };
  or = λ at e f. record { at = at; form = box_form.Or e f };
}

-- the same over measured operands: a node is one higher than the higher of its operands
module _ {F : Type 0 → Type 0} {E : Type 0} (m : Measuring F) (o : Operations E) where
  abbrev pub with_sign : Sign → ℕ → F E → F E
  with_sign sign at e = m.raise (m.each (o.sign sign at) e)

  abbrev pub with_operator : Operator → ℕ → F E → F E → F E
  with_operator op at e f = m.raise (m.join (o.op op at) e f)

  abbrev pub with_and : ℕ → F E → F E → F E
  with_and at e f = m.raise (m.join (o.and at) e f)

  abbrev pub with_or : ℕ → F E → F E → F E
  with_or at e f = m.raise (m.join (o.or at) e f)
