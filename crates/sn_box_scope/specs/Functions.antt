-- What a name means where it is called.
use Rattle.std.specs.Prelude.{◌≡◌, ℕ, ◌==◌, true, false, if◌then◌else◌, List, map as each, length, codes, Option, Some, None, slice_get}
use Rattle.std.specs.Str.{bytes_eq}
use Rattle.sn_ast.specs.declared.declaration.FunDecl.{FunDecl}
use Rattle.sn_ast.specs.declared.label.Ident.{Ident}
use Rattle.sn_names.specs.Names.{is_held, number_in}
use Rattle.sn_net.specs.Boxes.{builtin_size}
use Rattle.sn_net.specs.declared.expr.BuiltinKind.{BuiltinKind}
use Rattle.sn_net.specs.declared.expr.BuiltinKind.TheVariants as builtin
use Rattle.sn_net.specs.declared.expr.Expr.{Expr}
use Rattle.sn_net.specs.declared.expr.Expr.TheVariants.{Call, Builtin}
use Rattle.sn_label_scope.specs.Refusals.{Check, required}
use Rattle.sn_label_scope.specs.declared.refusal.Reason.TheVariants.{Unknown, Arity}

-- the functions that every box has, by their names
abbrev pub builtin_named : List ℕ → Option BuiltinKind
builtin_named name =
    if bytes_eq name (codes "len") then Some builtin.Len else
    (if bytes_eq name (codes "at") then Some builtin.At else
    (if bytes_eq name (codes "slice") then Some builtin.Slice else
    (if bytes_eq name (codes "join") then Some builtin.Join else
    (if bytes_eq name (codes "push") then Some builtin.Push else
    (if bytes_eq name (codes "text") then Some builtin.Text else
    (if bytes_eq name (codes "kind") then Some builtin.Kind else None))))))

-- the place of the first function with the name; a name that none has gets a number past all, which is how many there are
abbrev pub function_number : List FunDecl → List ℕ → ℕ
function_number funs name = number_in (each (λ fun. fun.name.text) funs) name

-- names, each once, and beside each the place of the first of all that has it
pub record AreFirst (all names : List (List ℕ)) (places : List ℕ) : Type 0 where
  pub same : (name : List ℕ) → is_held names name ≡ is_held all name
  pub as_many : length places ≡ length names
  pub first : (name : List ℕ) → is_held names name ≡ true → slice_get places (number_in names name) ≡ Some (number_in all name)

-- a call of a function that every box has, or else of the function of the number
abbrev pub call_of : Option BuiltinKind → ℕ → List Expr → Expr
call_of (Some kind) number parts = Builtin kind parts
call_of None number parts = Call number parts

-- a name that every box has means that, whatever functions the box has
abbrev pub call_at : List FunDecl → Ident → List Expr → Expr
call_at funs name parts = call_of (builtin_named name.text) (function_number funs name.text) parts

-- how many arguments a function takes that every box has, or else the size of the box's own, if there is one
abbrev pub size_of : Option BuiltinKind → Option ℕ → Option ℕ
size_of (Some kind) size = Some (builtin_size kind)
size_of None size = size

-- how many arguments what is called takes, if there is such a function
abbrev pub called_size : List FunDecl → List ℕ → Option ℕ
called_size funs name = size_of (builtin_named name) (slice_get (each (λ fun. length fun.params) funs) (function_number funs name))

-- there is a function, and it takes so many
abbrev pub size_required : Option ℕ → ℕ → ℕ → Check
size_required (Some size) count at = required (count == size) Arity at
size_required None count at = required false Unknown at

-- what is called is there, and takes as many arguments
abbrev pub call_required : List FunDecl → Ident → ℕ → Check
call_required funs name count = size_required (called_size funs name.text) count name.at
