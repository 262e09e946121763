-- What is refused in boxes.
use Rattle.std.specs.Prelude.{◌≡◌, ℕ, zero, suc, true, false, ◌==◌, nat_le, List, [], ◌∷◌, length, map as each, find, slice_get, Option, Some, None, option_map}
use Rattle.std.specs.Str.{bytes_eq}
use Rattle.std.specs.List.{list_any}
use Rattle.std.specs.Option.{is_none, option_or}
use Rattle.sn_ast.specs.declared.box_expr.BExpr.{BExpr}
use Rattle.sn_ast.specs.declared.box_expr.BForm.{BForm}
use Rattle.sn_ast.specs.declared.box_expr.BForm.TheOpen.{BForm-F}
use Rattle.sn_ast.specs.declared.box_expr.BForm.TheViews.{out-BForm, out-BExpr}
use Rattle.sn_ast.specs.declared.declaration.BoxDecl.{BoxDecl}
use Rattle.sn_ast.specs.declared.declaration.FunDecl.{FunDecl}
use Rattle.sn_ast.specs.declared.label.Ident.{Ident}
use Rattle.sn_ast.specs.declared.label.Tuple.{Tuple}
use Rattle.sn_box_scope.specs.Functions.{builtin_named}
use Rattle.sn_box_scope.specs.Variables.{field_variable, is_named, label_variable, with_bound}
use Rattle.sn_label_scope.specs.declared.refusal.Refusal.{Refusal}
use Rattle.sn_names.specs.Names.{is_held}
use Rattle.sn_net.specs.Boxes.{builtin_size}
use Rattle.sn_record.specs.Value.{is_printable_text}
use Rattle.sn_scope_rules.specs.Labels.{LabelsBreak}
use Rattle.sn_scope_rules.specs.Refusals.{arity, twice, unknown}
use Rattle.sn_scope_rules.specs.Standing.{StandsBehind, StandsIn, StandsWithin}

-- what stands for a name: what the crate of boxes makes of a parameter
abbrev made_by : {A B : Type 0} → (A → B) → Type 0
made_by {A} {B} make = B

abbrev pub Variable : Type 0
Variable = made_by field_variable

-- an expression with the variables that stand where it does
pub record Seen : Type 0 where
  pub variables : List Variable
  pub expr : BExpr

abbrev pub form_of : BExpr → BForm-F BForm BExpr
form_of e = out-BForm (out-BExpr e).form

abbrev pub place_of : BExpr → ℕ
place_of e = (out-BExpr e).at

abbrev pub seen : List Variable → BExpr → Seen
seen variables e = record { variables = variables; expr = e }

-- the expressions that a form is made of: what follows a `let` sees its name too
abbrev pub parts_in : List Variable → BForm-F BForm BExpr → List Seen
parts_in variables (BForm-F.Number n) = []
parts_in variables (BForm-F.TextLit text) = []
parts_in variables (BForm-F.Tag name) = []
parts_in variables (BForm-F.Name name) = []
parts_in variables (BForm-F.Neg e) = seen variables e ∷ []
parts_in variables (BForm-F.Not e) = seen variables e ∷ []
parts_in variables (BForm-F.Op o e f) = seen variables e ∷ seen variables f ∷ []
parts_in variables (BForm-F.And e f) = seen variables e ∷ seen variables f ∷ []
parts_in variables (BForm-F.Or e f) = seen variables e ∷ seen variables f ∷ []
parts_in variables (BForm-F.If c e f) = seen variables c ∷ seen variables e ∷ seen variables f ∷ []
parts_in variables (BForm-F.Let name bound rest) = seen variables bound ∷ seen (with_bound variables name) rest ∷ []
parts_in variables (BForm-F.Seq parts) = each (seen variables) parts
parts_in variables (BForm-F.ListLit parts) = each (seen variables) parts
parts_in variables (BForm-F.Call name parts) = each (seen variables) parts
parts_in variables (BForm-F.Out n parts) = each (seen variables) parts

abbrev pub parts_of : Seen → List Seen
parts_of e = parts_in e.variables (form_of e.expr)

-- how many arguments a name takes where it is called: a built-in function's, or else those of the first function of the box with the name
abbrev pub arguments_of : List FunDecl → List ℕ → Option ℕ
arguments_of funs name = option_or (option_map builtin_size (builtin_named name)) (option_map (λ fun. length fun.params) (find (λ fun. bytes_eq fun.name.text name) funs))

-- the n-th output tuple, counted from 1
abbrev pub output_at : List Tuple → ℕ → Option Tuple
output_at outputs zero = None
output_at outputs (suc n) = slice_get outputs n

-- what is refused in one form of an expression at its place, over the variables that stand there
pub data FormBreaks (declaration : BoxDecl) (variables : List Variable) (place : ℕ) : BForm-F BForm BExpr → Refusal → Type 0 where
  no_such_tag : {name : Ident} → list_any (is_named true name.text) variables ≡ false → FormBreaks declaration variables place (BForm-F.Tag name) (unknown name.at)
  no_such_name : {name : Ident} → list_any (is_named false name.text) variables ≡ false → FormBreaks declaration variables place (BForm-F.Name name) (unknown name.at)
  not_printable : {text : List ℕ} → is_printable_text text ≡ false → FormBreaks declaration variables place (BForm-F.TextLit text) (unknown place)
  no_such_function : {name : Ident} {parts : List BExpr} →
      arguments_of declaration.funs name.text ≡ None → FormBreaks declaration variables place (BForm-F.Call name parts) (unknown name.at)
  argument_count : {name : Ident} {parts : List BExpr} (size : ℕ) →
      arguments_of declaration.funs name.text ≡ Some size → (length parts == size) ≡ false → FormBreaks declaration variables place (BForm-F.Call name parts) (arity name.at)
  no_such_output : {n : ℕ} {parts : List BExpr} → output_at declaration.outputs n ≡ None → FormBreaks declaration variables place (BForm-F.Out n parts) (arity place)
  output_count : {n : ℕ} {parts : List BExpr} (output : Tuple) →
      output_at declaration.outputs n ≡ Some output → (length output.labels == length parts) ≡ false → FormBreaks declaration variables place (BForm-F.Out n parts) (arity place)

-- what is refused in an expression that stands somewhere within it
pub data ExprBreaks (declaration : BoxDecl) (whole : Seen) : Refusal → Type 0 where
  in_form : {part : Seen} {r : Refusal} → StandsWithin parts_of part whole →
      FormBreaks declaration part.variables (place_of part.expr) (form_of part.expr) r → ExprBreaks declaration whole r

-- a name that stands before in the list
pub data IdentsBreak (idents : List Ident) : Refusal → Type 0 where
  ident_twice : {before : List Ident} {name : Ident} →
      StandsBehind name before idents → is_held (each (λ other. other.text) before) name.text ≡ true → IdentsBreak idents (twice name.at)

-- a function with the name of a built-in one, with more than 8 parameters or one twice, or what is refused in its body, which sees the parameters
pub data FunBreaks (declaration : BoxDecl) (fun : FunDecl) : Refusal → Type 0 where
  built_in : is_none (builtin_named fun.name.text) ≡ false → FunBreaks declaration fun (twice fun.name.at)
  parameter_count : nat_le (length fun.params) 8 ≡ false → FunBreaks declaration fun (arity fun.name.at)
  in_parameters : {r : Refusal} → IdentsBreak fun.params r → FunBreaks declaration fun r
  in_fun_body : {r : Refusal} → ExprBreaks declaration (seen (each field_variable fun.params) fun.body) r → FunBreaks declaration fun r

-- a label twice in a tuple, a function's name twice, what is refused in a function, or in the body, which sees the labels of the input
pub data BoxBreaks (declaration : BoxDecl) : Refusal → Type 0 where
  in_input : {r : Refusal} → LabelsBreak declaration.input.labels r → BoxBreaks declaration r
  in_output : {output : Tuple} {r : Refusal} → StandsIn output declaration.outputs → LabelsBreak output.labels r → BoxBreaks declaration r
  in_names : {r : Refusal} → IdentsBreak (each (λ fun. fun.name) declaration.funs) r → BoxBreaks declaration r
  in_fun : {fun : FunDecl} {r : Refusal} → StandsIn fun declaration.funs → FunBreaks declaration fun r → BoxBreaks declaration r
  in_body : {r : Refusal} → ExprBreaks declaration (seen (each label_variable declaration.input.labels) declaration.body) r → BoxBreaks declaration r
