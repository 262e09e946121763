-- Box declarations by the numbers of their labels, variables and functions.
use Rattle.std.specs.Prelude.{ℕ, not, nat_le, List, [], ◌∷◌, length, map as each, Option}
use Rattle.std.specs.List.{fold}
use Rattle.std.specs.FinMap as map
use Rattle.std.specs.Option.{is_none}
use Rattle.sn_ast.specs.declared.declaration.BoxDecl.{BoxDecl}
use Rattle.sn_ast.specs.declared.declaration.FunDecl.{FunDecl}
use Rattle.sn_ast.specs.declared.label.Ident.{Ident}
use Rattle.sn_ast.specs.declared.label.Tuple.{Tuple}
use Rattle.sn_names.specs.Names.{entered, is_held}
use Rattle.sn_net.specs.declared.expr.BoxProgram.{BoxProgram}
use Rattle.sn_net.specs.declared.expr.Fun.{Fun}
use Rattle.sn_record.specs.declared.label.Label.{Label}
use Rattle.sn_label_scope.specs.Labels.{label_at, no_repeats}
use Rattle.sn_label_scope.specs.Refusals.{Check, required}
use Rattle.sn_label_scope.specs.declared.refusal.Reason.TheVariants.{Twice, Arity}
use Rattle.sn_label_scope.specs.declared.refusal.Refusal.{Refusal}
use Rattle.sn_box_scope.specs.Variables.{field_variable, label_variable}
use Rattle.sn_box_scope.specs.Functions.{builtin_named}
use Rattle.sn_box_scope.specs.Expressions.{expr_at, expr_required}

-- a tuple's labels, in the order as written
abbrev pub tuple_at : List (List ℕ) → Tuple → List Label
tuple_at names tuple = each (label_at names) tuple.labels

-- a function sees its parameters, and not the variables of its box
abbrev pub fun_at : BoxDecl → FunDecl → Fun
fun_at declaration fun = record { params = length fun.params; body = expr_at declaration fun.body (each field_variable fun.params) }

-- the body of a box sees the labels of its input
abbrev pub box_at : List (List ℕ) → BoxDecl → BoxProgram
box_at names declaration = record {
  input = tuple_at names declaration.input;
  outputs = each (tuple_at names) declaration.outputs;
  funs = each (fun_at declaration) declaration.funs;
  body = expr_at declaration declaration.body (each label_variable declaration.input.labels);
}

-- a tuple has no label twice
abbrev pub tuple_required : List (List ℕ) → Option Refusal → Tuple → Option Refusal
tuple_required names least tuple = no_repeats names map.empty tuple.labels least

-- each name is refused that is among those seen, or stands before in the list
abbrev pub names_apart : List (List ℕ) → List Ident → Check
names_apart seen [] least = least
names_apart seen (name ∷ names) least = names_apart (entered seen name.text) names (required (not (is_held seen name.text)) Twice name.at least)

-- a function has a name that not every box has, at most 8 parameters, none of them twice, and a body over them
abbrev pub fun_required : BoxDecl → Option Refusal → FunDecl → Option Refusal
fun_required declaration least fun =
    expr_required declaration fun.body (each field_variable fun.params)
    (names_apart [] fun.params
    (required (nat_le (length fun.params) 8) Arity fun.name.at
    (required (is_none (builtin_named fun.name.text)) Twice fun.name.at least)))

-- no tuple has a label twice, no two functions have one name, and each function and the body is over what it sees
abbrev pub box_required : List (List ℕ) → BoxDecl → Check
box_required names declaration least =
    expr_required declaration declaration.body (each label_variable declaration.input.labels)
    (fold (fun_required declaration)
    (names_apart [] (each (λ fun. fun.name) declaration.funs)
    (fold (tuple_required names) (tuple_required names least declaration.input) declaration.outputs))
    declaration.funs)
