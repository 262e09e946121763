-- Expressions in boxes: where nothing of one is refused, it is closed over the variables.
use Rattle.std.proofs.Common.{◌≡◌, ℕ, ◌+◌, Bool, true, false, ◌&&◌, ◌==◌, IsTrue, nat_lt, List, [], ◌∷◌, length, map as each, Option, Some, None, slice_get, unwrap_or, refl, sym, ap, ◌∙◌, subst, subst₂, arith}
use Rattle.std.specs.Option.{option_map}
use Rattle.std.proofs.lemmas.Bool.{and_from}
use Rattle.std.proofs.lemmas.Bool.Decides.{nat_tests}
use Rattle.std.proofs.lemmas.List.{length-map, length_push}
use Rattle.sn_ast.specs.declared.box_expr.BExpr.{BExpr, fold-roll-BExpr}
use Rattle.sn_ast.specs.declared.box_expr.BForm.{BForm, fold-BForm}
use Rattle.sn_ast.specs.declared.box_expr.BForm.TheFolds.{fold-roll-BForm, ind-BExpr, map-BForm}
use Rattle.sn_ast.specs.declared.box_expr.BForm.TheOpen.{BForm-F}
use Rattle.sn_ast.specs.declared.box_expr.BForm.TheViews.{roll-BForm, roll-BExpr}
use Rattle.sn_ast.specs.declared.declaration.BoxDecl.{BoxDecl}
use Rattle.sn_ast.specs.declared.label.Ident.{Ident}
use Rattle.sn_net.specs.Boxes.{all_closed, builtin_size, closed_step, has_size}
use Rattle.sn_net.specs.declared.expr.BuiltinKind.{BuiltinKind}
use Rattle.sn_net.specs.declared.expr.Expr.{Expr, fold-Expr, fold-roll-Expr}
use Rattle.sn_net.specs.declared.expr.Expr.TheOpen.{Expr-F}
use Rattle.sn_net.specs.declared.expr.Expr.TheVariants as made
use Rattle.sn_record.specs.Value.{is_printable_text}
use Rattle.sn_label_scope.specs.Operators.{bin_op}
use Rattle.sn_label_scope.specs.Refusals.{Check, required}
use Rattle.sn_label_scope.specs.declared.refusal.Reason.TheVariants.{Unknown, Arity}
use Rattle.sn_label_scope.proofs.Checks.{Tells, required_tells, tells_both, tells_weaker}
use Rattle.sn_box_scope.specs.declared.variables.Variable.{Variable}
use Rattle.sn_box_scope.specs.Variables.{field_variable, variable_number, with_bound}
use Rattle.sn_box_scope.specs.Functions.{builtin_named, call_at, call_of, call_required, function_number, size_of, size_required}
use Rattle.sn_box_scope.specs.Expressions.{expr_at, expr_required, expr_step, output_number, parts_over, parts_required, required_step}

turned : (m n : ℕ) → IsTrue (m == n) → IsTrue (n == m)
turned m n same = grind (arith, nat_tests, same)

module _ (declaration : BoxDecl) where
  -- how many arguments each function takes, and how many values each output tuple
  abbrev pub fun_sizes : List ℕ
  fun_sizes = each (λ fun. length fun.params) declaration.funs

  abbrev pub output_sizes : List ℕ
  output_sizes = each (λ tuple. length tuple.labels) declaration.outputs

  abbrev over_step : Expr-F (ℕ → Bool) → ℕ → Bool
  over_step = closed_step fun_sizes output_sizes

  abbrev is_over : Expr → ℕ → Bool
  is_over = fold-Expr (ℕ → Bool) over_step

  -- the expression is closed where n variables stand
  abbrev pub IsOver : ℕ → Expr → Type 0
  IsOver n expr = IsTrue (is_over expr n)

  -- the check and the expression of a form
  abbrev form_check : BForm → ℕ → List Variable → Check
  form_check = fold-BForm (ℕ → List Variable → Check) (List Variable → Check) (required_step declaration) (λ e. e.form e.at)

  abbrev form_expr : BForm → List Variable → Expr
  form_expr = fold-BForm (List Variable → Expr) (List Variable → Expr) (expr_step declaration) (λ e. e.form)

  abbrev check_of : BExpr → List Variable → Check
  check_of = expr_required declaration

  abbrev expr_of : BExpr → List Variable → Expr
  expr_of = expr_at declaration

  abbrev FormTells : BForm → Type 0
  FormTells form = (at : ℕ) (variables : List Variable) → Tells (form_check form at variables) (IsOver (length variables) (form_expr form variables))

  abbrev ExprTells : BExpr → Type 0
  ExprTells e = (variables : List Variable) → Tells (check_of e variables) (IsOver (length variables) (expr_of e variables))

  -- one level, where it tells over the checks and expressions of its parts
  level : (x : BForm-F BForm BExpr)
      → ((at : ℕ) (variables : List Variable) → Tells (required_step declaration (map-BForm BForm BExpr (ℕ → List Variable → Check) (List Variable → Check) form_check check_of x) at variables)
      (IsOver (length variables) (expr_step declaration (map-BForm BForm BExpr (List Variable → Expr) (List Variable → Expr) form_expr expr_of x) variables)))
      → FormTells (roll-BForm x)
  level x told = subst₂ (λ (check : ℕ → List Variable → Check) (expr : List Variable → Expr). (at : ℕ) (variables : List Variable) → Tells (check at variables) (IsOver (length variables) (expr variables)))
      (sym (fold-roll-BForm (ℕ → List Variable → Check) (List Variable → Check) (required_step declaration) (λ e. e.form e.at) x))
      (sym (fold-roll-BForm (List Variable → Expr) (List Variable → Expr) (expr_step declaration) (λ e. e.form) x)) told

  over_int : (i : _) (n : ℕ) → IsOver n (made.Int i)
  over_int i n = ap (λ test. test n) (ap is_over (sym (made.rolls-Int i)) ∙ fold-roll-Expr _ over_step (Expr-F.Int i))

  over_text : (text : List ℕ) (n : ℕ) → IsTrue (is_printable_text text) → IsOver n (made.TextLit text)
  over_text text n told = ap (λ test. test n) (ap is_over (sym (made.rolls-TextLit text)) ∙ fold-roll-Expr _ over_step (Expr-F.TextLit text)) ∙ told

  over_var : (i n : ℕ) → IsTrue (nat_lt i n) → IsOver n (made.Var i)
  over_var i n told = ap (λ test. test n) (ap is_over (sym (made.rolls-Var i)) ∙ fold-roll-Expr _ over_step (Expr-F.Var i)) ∙ told

  over_neg : (e : Expr) (n : ℕ) → IsOver n e → IsOver n (made.Neg e)
  over_neg e n told = ap (λ test. test n) (ap is_over (sym (made.rolls-Neg e)) ∙ fold-roll-Expr _ over_step (Expr-F.Neg e)) ∙ told

  over_not : (e : Expr) (n : ℕ) → IsOver n e → IsOver n (made.Not e)
  over_not e n told = ap (λ test. test n) (ap is_over (sym (made.rolls-Not e)) ∙ fold-roll-Expr _ over_step (Expr-F.Not e)) ∙ told

  over_op : (op : _) (e f : Expr) (n : ℕ) → IsOver n e × IsOver n f → IsOver n (made.Op op e f)
  over_op op e f n told = ap (λ test. test n) (ap is_over (sym (made.rolls-Op op e f)) ∙ fold-roll-Expr _ over_step (Expr-F.Op op e f)) ∙ and_from (is_over e n) (is_over f n) told.0 told.1

  over_and : (e f : Expr) (n : ℕ) → IsOver n e × IsOver n f → IsOver n (made.And e f)
  over_and e f n told = ap (λ test. test n) (ap is_over (sym (made.rolls-And e f)) ∙ fold-roll-Expr _ over_step (Expr-F.And e f)) ∙ and_from (is_over e n) (is_over f n) told.0 told.1

  over_or : (e f : Expr) (n : ℕ) → IsOver n e × IsOver n f → IsOver n (made.Or e f)
  over_or e f n told = ap (λ test. test n) (ap is_over (sym (made.rolls-Or e f)) ∙ fold-roll-Expr _ over_step (Expr-F.Or e f)) ∙ and_from (is_over e n) (is_over f n) told.0 told.1

  over_if : (c e f : Expr) (n : ℕ) → (IsOver n c × IsOver n e) × IsOver n f → IsOver n (made.If c e f)
  over_if c e f n told = ap (λ test. test n) (ap is_over (sym (made.rolls-If c e f)) ∙ fold-roll-Expr _ over_step (Expr-F.If c e f))
      ∙ and_from (is_over c n) (is_over e n && is_over f n) told.0.0 (and_from (is_over e n) (is_over f n) told.0.1 told.1)

  over_let : (e f : Expr) (n : ℕ) → IsOver n e × IsOver (n + 1) f → IsOver n (made.Let e f)
  over_let e f n told = ap (λ test. test n) (ap is_over (sym (made.rolls-Let e f)) ∙ fold-roll-Expr _ over_step (Expr-F.Let e f)) ∙ and_from (is_over e n) (is_over f (n + 1)) told.0 told.1

  -- each part is closed
  abbrev AreOver : ℕ → List Expr → Type 0
  AreOver n parts = IsTrue (all_closed (each is_over parts) n)

  over_seq : (parts : List Expr) (n : ℕ) → AreOver n parts → IsOver n (made.Seq parts)
  over_seq parts n told = ap (λ test. test n) (ap is_over (sym (made.rolls-Seq parts)) ∙ fold-roll-Expr _ over_step (Expr-F.Seq parts)) ∙ told

  over_list : (parts : List Expr) (n : ℕ) → AreOver n parts → IsOver n (made.ListLit parts)
  over_list parts n told = ap (λ test. test n) (ap is_over (sym (made.rolls-ListLit parts)) ∙ fold-roll-Expr _ over_step (Expr-F.ListLit parts)) ∙ told

  over_emit : (number : ℕ) (parts : List Expr) (n : ℕ) → AreOver n parts → IsTrue (has_size output_sizes number (length (each is_over parts))) → IsOver n (made.Emit number parts)
  over_emit number parts n told sized = ap (λ test. test n) (ap is_over (sym (made.rolls-Emit number parts)) ∙ fold-roll-Expr _ over_step (Expr-F.Emit number parts)) ∙ and_from _ _ sized told

  -- what a call that is not refused takes as many arguments as
  abbrev Fits : Option BuiltinKind → ℕ → ℕ → Type 0
  Fits (Some kind) number count = IsTrue (count == builtin_size kind)
  Fits None number count = IsTrue (has_size fun_sizes number count)

  over_call : (builtin : Option BuiltinKind) (number : ℕ) (parts : List Expr) (n : ℕ) → AreOver n parts → Fits builtin number (length (each is_over parts)) → IsOver n (call_of builtin number parts)
  over_call (Some kind) number parts n told fits = ap (λ test. test n) (ap is_over (sym (made.rolls-Builtin kind parts)) ∙ fold-roll-Expr _ over_step (Expr-F.Builtin kind parts)) ∙ and_from _ _ fits told
  over_call None number parts n told fits = ap (λ test. test n) (ap is_over (sym (made.rolls-Call number parts)) ∙ fold-roll-Expr _ over_step (Expr-F.Call number parts)) ∙ and_from _ _ fits told

  -- a size that is not refused is there, and is the count
  sized_tells : (found : Option ℕ) (count at : ℕ) → Tells (size_required found count at) (IsTrue (unwrap_or (option_map (λ size. size == count) found) false))
  sized_tells (Some size) count at = tells_weaker _ _ _ (required_tells (count == size) Arity at) (turned count size)
  sized_tells None count at = required_tells false Unknown at

  call_tells : (builtin : Option BuiltinKind) (number count at : ℕ) → Tells (size_required (size_of builtin (slice_get fun_sizes number)) count at) (Fits builtin number count)
  call_tells (Some kind) number count at = required_tells (count == builtin_size kind) Arity at
  call_tells None number count at = sized_tells (slice_get fun_sizes number) count at

  two : (e f : BExpr) (variables : List Variable) → ExprTells e → ExprTells f
      → Tells (λ least. check_of f variables (check_of e variables least)) (IsOver (length variables) (expr_of e variables) × IsOver (length variables) (expr_of f variables))
  two e f variables one other = tells_both (check_of e variables) (check_of f variables) _ _ (one variables) (other variables)

  three : (c e f : BExpr) (variables : List Variable) → ExprTells c → ExprTells e → ExprTells f
      → Tells (λ least. check_of f variables (check_of e variables (check_of c variables least)))
      ((IsOver (length variables) (expr_of c variables) × IsOver (length variables) (expr_of e variables)) × IsOver (length variables) (expr_of f variables))
  three c e f variables first one other = tells_both (λ least. check_of e variables (check_of c variables least)) (check_of f variables) _ _ (two c e variables first one) (other variables)

  -- the rest of a `let` has one variable more
  let_tells : (name : Ident) (e f : BExpr) (variables : List Variable) → ExprTells e → ExprTells f
      → Tells (λ least. check_of f (with_bound variables name) (check_of e variables least))
      (IsOver (length variables) (expr_of e variables) × IsOver (length variables + 1) (expr_of f (with_bound variables name)))
  let_tells name e f variables one other = tells_both (check_of e variables) (check_of f (with_bound variables name)) _ _ (one variables)
      (subst (λ n. Tells (check_of f (with_bound variables name)) (IsOver n (expr_of f (with_bound variables name)))) (length_push variables (field_variable name)) (other (with_bound variables name)))

  abbrev Told : Type 0
  Told = (e : BExpr) × ExprTells e

  abbrev told_exprs : List Told → List BExpr
  told_exprs parts = each (λ (e : Told). e.0) parts

  -- parts that are not refused are closed
  parts_tell : (parts : List Told) (variables : List Variable) → Tells (parts_required (each check_of (told_exprs parts)) variables) (AreOver (length variables) (parts_over (each expr_of (told_exprs parts)) variables))
  parts_tell [] variables least none = (none, refl)
  parts_tell (part ∷ parts) variables least none =
      let rest = parts_tell parts variables (check_of part.0 variables least) none in
      let first = part.1 variables least rest.0 in
      (first.0, and_from (is_over (expr_of part.0 variables) (length variables)) (all_closed (each is_over (parts_over (each expr_of (told_exprs parts)) variables)) (length variables)) first.1 rest.1)

  -- there are as many tests of parts as checks of parts
  as_many : (parts : List BExpr) (variables : List Variable) → length (each check_of parts) ≡ length (each is_over (parts_over (each expr_of parts) variables))
  as_many parts variables = length-map parts check_of ∙ sym (length-map (parts_over (each expr_of parts) variables) is_over ∙ length-map (each expr_of parts) (λ part. part variables) ∙ length-map parts expr_of)

  called_tells : (name : Ident) (parts : List Told) (variables : List Variable)
      → Tells (λ least. call_required declaration.funs name (length (each check_of (told_exprs parts))) (parts_required (each check_of (told_exprs parts)) variables least))
      (IsOver (length variables) (call_at declaration.funs name (parts_over (each expr_of (told_exprs parts)) variables)))
  called_tells name parts variables =
      let exprs = told_exprs parts in
      let count = length (each check_of exprs) in
      let builtin = builtin_named name.text in
      let number = function_number declaration.funs name.text in
      tells_weaker _ _ _ (tells_both (parts_required (each check_of exprs) variables) (call_required declaration.funs name count) _ _ (parts_tell parts variables) (call_tells builtin number count name.at))
      (λ told. over_call builtin number (parts_over (each expr_of exprs) variables) (length variables) told.0 (subst (Fits builtin number) (as_many exprs variables) told.1))

  emitted_tells : (n : ℕ) (parts : List Told) (at : ℕ) (variables : List Variable)
      → Tells (λ least. required (has_size output_sizes (output_number (length declaration.outputs) n) (length (each check_of (told_exprs parts)))) Arity at (parts_required (each check_of (told_exprs parts)) variables least))
      (IsOver (length variables) (made.Emit (output_number (length declaration.outputs) n) (parts_over (each expr_of (told_exprs parts)) variables)))
  emitted_tells n parts at variables =
      let exprs = told_exprs parts in
      let number = output_number (length declaration.outputs) n in
      let sized = has_size output_sizes number (length (each check_of exprs)) in
      tells_weaker _ _ _ (tells_both (parts_required (each check_of exprs) variables) (required sized Arity at) _ _ (parts_tell parts variables) (required_tells sized Arity at))
      (λ told. over_emit number (parts_over (each expr_of exprs) variables) (length variables) told.0 (subst (λ count. IsTrue (has_size output_sizes number count)) (as_many exprs variables) told.1))

  variable_tells : (tag : Bool) (name : Ident) (variables : List Variable)
      → Tells (required (nat_lt (variable_number tag name.text variables) (length variables)) Unknown name.at) (IsOver (length variables) (made.Var (variable_number tag name.text variables)))
  variable_tells tag name variables = tells_weaker _ _ _ (required_tells (nat_lt (variable_number tag name.text variables) (length variables)) Unknown name.at) (over_var (variable_number tag name.text variables) (length variables))

  -- where nothing of the expression is refused, it is closed over the variables
  pub expr_tells : (e : BExpr) (variables : List Variable) → Tells (expr_required declaration e variables) (IsOver (length variables) (expr_at declaration e variables))
  expr_tells = ind-BExpr FormTells ExprTells
      (λ x y is. subst (λ z. FormTells (roll-BForm z)) is (level (map-BForm _ _ BForm BExpr (λ e. e.0) (λ e. e.0) y) (elim y as (λ z. (at : ℕ) (variables : List Variable) → Tells
      (required_step declaration (map-BForm BForm BExpr (ℕ → List Variable → Check) (List Variable → Check) form_check check_of (map-BForm _ _ BForm BExpr (λ e. e.0) (λ e. e.0) z)) at variables)
      (IsOver (length variables) (expr_step declaration (map-BForm BForm BExpr (List Variable → Expr) (List Variable → Expr) form_expr expr_of (map-BForm _ _ BForm BExpr (λ e. e.0) (λ e. e.0) z)) variables))) [
        | BForm-F.Number i ↦ λ at variables least none. (none, over_int i (length variables))
        | BForm-F.TextLit text ↦ λ at variables. tells_weaker _ _ _ (required_tells (is_printable_text text) Unknown at) (over_text text (length variables))
        | BForm-F.Tag name ↦ λ at variables. variable_tells true name variables
        | BForm-F.Name name ↦ λ at variables. variable_tells false name variables
        | BForm-F.Neg e ↦ λ at variables. tells_weaker _ _ _ (e.1 variables) (over_neg (expr_of e.0 variables) (length variables))
        | BForm-F.Not e ↦ λ at variables. tells_weaker _ _ _ (e.1 variables) (over_not (expr_of e.0 variables) (length variables))
        | BForm-F.Op o e f ↦ λ at variables. tells_weaker _ _ _ (two e.0 f.0 variables e.1 f.1) (over_op (bin_op o) (expr_of e.0 variables) (expr_of f.0 variables) (length variables))
        | BForm-F.And e f ↦ λ at variables. tells_weaker _ _ _ (two e.0 f.0 variables e.1 f.1) (over_and (expr_of e.0 variables) (expr_of f.0 variables) (length variables))
        | BForm-F.Or e f ↦ λ at variables. tells_weaker _ _ _ (two e.0 f.0 variables e.1 f.1) (over_or (expr_of e.0 variables) (expr_of f.0 variables) (length variables))
        | BForm-F.If c e f ↦ λ at variables. tells_weaker _ _ _ (three c.0 e.0 f.0 variables c.1 e.1 f.1) (over_if (expr_of c.0 variables) (expr_of e.0 variables) (expr_of f.0 variables) (length variables))
        | BForm-F.Let name e f ↦ λ at variables. tells_weaker _ _ _ (let_tells name e.0 f.0 variables e.1 f.1) (over_let (expr_of e.0 variables) (expr_of f.0 (with_bound variables name)) (length variables))
        | BForm-F.Seq parts ↦ λ at variables. tells_weaker _ _ _ (parts_tell parts variables) (over_seq (parts_over (each expr_of (told_exprs parts)) variables) (length variables))
        | BForm-F.ListLit parts ↦ λ at variables. tells_weaker _ _ _ (parts_tell parts variables) (over_list (parts_over (each expr_of (told_exprs parts)) variables) (length variables))
        | BForm-F.Call name parts ↦ λ at variables. called_tells name parts variables
        | BForm-F.Out n parts ↦ λ at variables. emitted_tells n parts at variables
      ])))
      (λ x y is. subst (λ z. ExprTells (roll-BExpr z)) is
      (subst₂ (λ (check : List Variable → Check) (expr : List Variable → Expr). (variables : List Variable) → Tells (check variables) (IsOver (length variables) (expr variables)))
      (sym (fold-roll-BExpr (ℕ → List Variable → Check) (List Variable → Check) (required_step declaration) (λ e. e.form e.at) (record { at = y.at; form = y.form.0 })))
      (sym (fold-roll-BExpr (List Variable → Expr) (List Variable → Expr) (expr_step declaration) (λ e. e.form) (record { at = y.at; form = y.form.0 }))) (y.form.1 y.at)))
