-- Expressions in boxes, in which each name becomes a number.
use Rattle.std.specs.Prelude.{ℕ, ◌-◌, true, false, ◌&&◌, nat_le, if◌then◌else◌, List, length, map as each}
use Rattle.std.specs.List.{fold}
use Rattle.sn_ast.specs.declared.box_expr.BExpr.{BExpr, fold-BExpr}
use Rattle.sn_ast.specs.declared.box_expr.BForm.TheOpen.{BForm-F}
use Rattle.sn_ast.specs.declared.declaration.BoxDecl.{BoxDecl}
use Rattle.sn_net.specs.Boxes.{has_size}
use Rattle.sn_net.specs.declared.expr.Expr.{Expr}
use Rattle.sn_net.specs.declared.expr.Expr.TheVariants.{Int, TextLit, Var, Neg, Not, Op, And, Or, If, Let, Seq, ListLit, Emit}
use Rattle.sn_record.specs.Value.{is_printable_text}
use Rattle.sn_label_scope.specs.Operators.{bin_op}
use Rattle.sn_label_scope.specs.Refusals.{Check, required}
use Rattle.sn_label_scope.specs.declared.refusal.Reason.TheVariants.{Unknown, Arity}
use Rattle.sn_box_scope.specs.declared.variables.Variable.{Variable}
use Rattle.sn_box_scope.specs.Variables.{variable_number, variable_required, with_bound}
use Rattle.sn_box_scope.specs.Functions.{call_at, call_required}

-- the number of the output tuple that is written as the n-th, from 1, or else how many there are
abbrev pub output_number : ℕ → ℕ → ℕ
output_number count n = if nat_le 1 n && nat_le n count then n - 1 else count

-- each part over the variables
abbrev pub parts_over : List (List Variable → Expr) → List Variable → List Expr
parts_over parts variables = each (λ part. part variables) parts

-- one level, with what each part is over the variables that stand there in its place
abbrev pub expr_step : BoxDecl → BForm-F (List Variable → Expr) (List Variable → Expr) → List Variable → Expr
expr_step declaration (BForm-F.Number n) variables = Int n
expr_step declaration (BForm-F.TextLit text) variables = TextLit text
expr_step declaration (BForm-F.Tag name) variables = Var (variable_number true name.text variables)
expr_step declaration (BForm-F.Name name) variables = Var (variable_number false name.text variables)
expr_step declaration (BForm-F.Neg e) variables = Neg (e variables)
expr_step declaration (BForm-F.Not e) variables = Not (e variables)
expr_step declaration (BForm-F.Op o e f) variables = Op (bin_op o) (e variables) (f variables)
expr_step declaration (BForm-F.And e f) variables = And (e variables) (f variables)
expr_step declaration (BForm-F.Or e f) variables = Or (e variables) (f variables)
expr_step declaration (BForm-F.If c e f) variables = If (c variables) (e variables) (f variables)
expr_step declaration (BForm-F.Let name bound rest) variables = Let (bound variables) (rest (with_bound variables name))
expr_step declaration (BForm-F.Seq parts) variables = Seq (parts_over parts variables)
expr_step declaration (BForm-F.ListLit parts) variables = ListLit (parts_over parts variables)
expr_step declaration (BForm-F.Call name parts) variables = call_at declaration.funs name (parts_over parts variables)
expr_step declaration (BForm-F.Out n parts) variables = Emit (output_number (length declaration.outputs) n) (parts_over parts variables)

-- the expression by the numbers of its variables, in the box of the declaration
abbrev pub expr_at : BoxDecl → BExpr → List Variable → Expr
expr_at declaration = fold-BExpr (List Variable → Expr) (List Variable → Expr) (expr_step declaration) (λ e. e.form)

-- what each part adds, from the first to the last
abbrev pub parts_required : List (List Variable → Check) → List Variable → Check
parts_required parts variables least = fold (λ so_far part. part variables so_far) least parts

-- there is such an output tuple, and it takes so many
abbrev pub output_required : BoxDecl → ℕ → ℕ → ℕ → Check
output_required declaration n count at = required (has_size (each (λ tuple. length tuple.labels) declaration.outputs) (output_number (length declaration.outputs) n) count) Arity at

-- one level at its place, with what each part adds over the variables that stand there in its place
abbrev pub required_step : BoxDecl → BForm-F (ℕ → List Variable → Check) (List Variable → Check) → ℕ → List Variable → Check
required_step declaration (BForm-F.Number n) at variables least = least
required_step declaration (BForm-F.TextLit text) at variables least = required (is_printable_text text) Unknown at least
required_step declaration (BForm-F.Tag name) at variables least = variable_required true name variables least
required_step declaration (BForm-F.Name name) at variables least = variable_required false name variables least
required_step declaration (BForm-F.Neg e) at variables least = e variables least
required_step declaration (BForm-F.Not e) at variables least = e variables least
required_step declaration (BForm-F.Op o e f) at variables least = f variables (e variables least)
required_step declaration (BForm-F.And e f) at variables least = f variables (e variables least)
required_step declaration (BForm-F.Or e f) at variables least = f variables (e variables least)
required_step declaration (BForm-F.If c e f) at variables least = f variables (e variables (c variables least))
required_step declaration (BForm-F.Let name bound rest) at variables least = rest (with_bound variables name) (bound variables least)
required_step declaration (BForm-F.Seq parts) at variables least = parts_required parts variables least
required_step declaration (BForm-F.ListLit parts) at variables least = parts_required parts variables least
required_step declaration (BForm-F.Call name parts) at variables least = call_required declaration.funs name (length parts) (parts_required parts variables least)
required_step declaration (BForm-F.Out n parts) at variables least = output_required declaration n (length parts) at (parts_required parts variables least)

-- what the expression names is there, what takes parts has as many as it takes, and texts are printable
abbrev pub expr_required : BoxDecl → BExpr → List Variable → Check
expr_required declaration = fold-BExpr (ℕ → List Variable → Check) (List Variable → Check) (required_step declaration) (λ e. e.form e.at)
