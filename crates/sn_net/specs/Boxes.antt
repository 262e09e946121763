-- When box programs are closed: what an expression names is there, and what takes parts has as many as it takes.
use Rattle.std.specs.Prelude.{◌≢◌, ◌==◌, ℕ, ◌+◌, Bool, true, false, ◌&&◌, IsTrue, List, length, map, slice_get, unwrap_or, nat_lt, All, AllPairs}
use Rattle.std.specs.List.{list_all}
use Rattle.std.specs.Option.{option_map}
use Rattle.sn_record.specs.declared.label.Label.{Label}
use Rattle.sn_record.specs.Value.{is_printable_text}
use Rattle.sn_net.specs.declared.expr.BoxProgram.{BoxProgram}
use Rattle.sn_net.specs.declared.expr.BuiltinKind.{BuiltinKind}
use Rattle.sn_net.specs.declared.expr.BuiltinKind.TheVariants as builtin
use Rattle.sn_net.specs.declared.expr.Expr.{Expr, fold-Expr}
use Rattle.sn_net.specs.declared.expr.Expr.TheOpen.{Expr-F}

-- how many parts a function takes that every box has
abbrev pub builtin_size : BuiltinKind → ℕ
builtin_size builtin.Len = 1
builtin_size builtin.At = 2
builtin_size builtin.Slice = 3
builtin_size builtin.Join = 2
builtin_size builtin.Push = 2
builtin_size builtin.Text = 1
builtin_size builtin.Kind = 1

-- a size stands at the place, and it is n
abbrev pub has_size : List ℕ → ℕ → ℕ → Bool
has_size sizes place n = unwrap_or (option_map (λ size. size == n) (slice_get sizes place)) false

-- each part is closed where n variables stand
abbrev pub all_closed : List (ℕ → Bool) → ℕ → Bool
all_closed parts n = list_all (λ part. part n) parts

-- one level, with whether each part is closed where so many variables stand, over the sizes of the functions and of the
-- output variants
abbrev pub closed_step : List ℕ → List ℕ → Expr-F (ℕ → Bool) → ℕ → Bool
closed_step funs outputs (Expr-F.Int value) n = true
closed_step funs outputs (Expr-F.TextLit text) n = is_printable_text text
closed_step funs outputs (Expr-F.Var i) n = nat_lt i n
closed_step funs outputs (Expr-F.Neg e) n = e n
closed_step funs outputs (Expr-F.Not e) n = e n
closed_step funs outputs (Expr-F.Op op e f) n = e n && f n
closed_step funs outputs (Expr-F.And e f) n = e n && f n
closed_step funs outputs (Expr-F.Or e f) n = e n && f n
closed_step funs outputs (Expr-F.If c e f) n = c n && (e n && f n)
closed_step funs outputs (Expr-F.Let bound rest) n = bound n && rest (n + 1)
closed_step funs outputs (Expr-F.Seq parts) n = all_closed parts n
closed_step funs outputs (Expr-F.ListLit parts) n = all_closed parts n
closed_step funs outputs (Expr-F.Call number parts) n = has_size funs number (length parts) && all_closed parts n
closed_step funs outputs (Expr-F.Builtin kind parts) n = (length parts == builtin_size kind) && all_closed parts n
closed_step funs outputs (Expr-F.Emit number parts) n = has_size outputs number (length parts) && all_closed parts n

-- where n variables stand, the expression names only these, and functions and output variants of the program
abbrev pub is_closed_at : BoxProgram → ℕ → Expr → Bool
is_closed_at program n expr = fold-Expr (ℕ → Bool) (closed_step (map (λ fun. fun.params) program.funs) (map (λ labels. length labels) program.outputs)) expr n

-- no label stands twice in the tuple
abbrev pub IsTuple : List Label → Type 0
IsTuple labels = AllPairs (λ label other. label ≢ other) labels

-- no tuple has a label twice, a function's body is closed over its parameters, and the body over the input's labels
pub record IsClosedBox (program : BoxProgram) : Type 0 where
  pub input : IsTuple program.input
  pub outputs : All IsTuple program.outputs
  pub funs : All (λ fun. IsTrue (is_closed_at program fun.params fun.body)) program.funs
  pub body : IsTrue (is_closed_at program (length program.input) program.body)
