-- The variables that stand at a place, outermost first, each by whether it is a tag and by its name.
use Rattle.std.specs.Prelude.{ℕ, ◌+◌, Bool, true, false, ◌&&◌, not, nat_lt, if◌then◌else◌, List, [], ◌∷◌, ◌++◌, length}
use Rattle.std.specs.Str.{bytes_eq}
use Rattle.sn_ast.specs.declared.label.Ident.{Ident}
use Rattle.sn_ast.specs.declared.label.LabelAt.{LabelAt}
use Rattle.sn_label_scope.specs.Refusals.{Check, required}
use Rattle.sn_label_scope.specs.declared.refusal.Reason.TheVariants.{Unknown}
use Rattle.sn_box_scope.specs.declared.variables.Variable.{Variable}

-- both are tags, or neither is
abbrev pub same_kind : Bool → Bool → Bool
same_kind true tag = tag
same_kind false tag = not tag

-- the variable is of the kind and has the name
abbrev pub is_named : Bool → List ℕ → Variable → Bool
is_named tag name variable = same_kind variable.tag tag && bytes_eq variable.name name

-- the place of the last variable with the name, counted on from `place`; `found` where none has it
abbrev pub last_named : Bool → List ℕ → ℕ → ℕ → List Variable → ℕ
last_named tag name found place [] = found
last_named tag name found place (variable ∷ variables) = last_named tag name (if is_named tag name variable then place else found) (place + 1) variables

-- a name stands for the innermost variable with the name; one that no variable has gets a number past all, which is how many
-- there are
abbrev pub variable_number : Bool → List ℕ → List Variable → ℕ
variable_number tag name variables = last_named tag name (length variables) 0 variables

-- a label is a variable of the body of its box
abbrev pub label_variable : LabelAt → Variable
label_variable label = record { tag = label.tag; name = label.name.text }

-- a parameter and what `let` binds are variables that are no tags
abbrev pub field_variable : Ident → Variable
field_variable name = record { tag = false; name = name.text }

-- what `let` binds stands behind the variables
abbrev pub with_bound : List Variable → Ident → List Variable
with_bound variables name = variables ++ field_variable name ∷ []

-- a variable has the name
abbrev pub variable_required : Bool → Ident → List Variable → Check
variable_required tag name variables = required (nat_lt (variable_number tag name.text variables) (length variables)) Unknown name.at
