-- The operators of a source in the core form.
use Rattle.sn_ast.specs.declared.tag_expr.Operator.{Operator}
use Rattle.sn_ast.specs.declared.tag_expr.Operator.TheVariants as op
use Rattle.sn_tagexpr.specs.declared.expr.BinOp.{BinOp}
use Rattle.sn_tagexpr.specs.declared.expr.BinOp.TheVariants.{Add, Sub, Mul, Div, Rem, Lt, Le, Gt, Ge, Eq, Ne}

abbrev pub bin_op : Operator → BinOp
bin_op op.Add = Add
bin_op op.Sub = Sub
bin_op op.Mul = Mul
bin_op op.Div = Div
bin_op op.Rem = Rem
bin_op op.Lt = Lt
bin_op op.Le = Le
bin_op op.Gt = Gt
bin_op op.Ge = Ge
bin_op op.Eq = Eq
bin_op op.Ne = Ne
