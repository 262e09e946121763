-- What is called and what is emitted, by names and places.
use Rattle.std.proofs.Common.{◌≡◌, ℕ, zero, suc, ◌-◌, ◌≤◌, ◌==◌, Bool, true, false, ◌&&◌, nat_le, cond, if◌then◌else◌, List, [], ◌∷◌, length, map as each, find, slice_get, Option, Some, None, option_map, unwrap_or, bytes_eq, refl, sym, ap, ◌∙◌, subst, arith}
use Rattle.std.specs.Option.{option_or}
use Rattle.std.proofs.lemmas.Bool.Decides.{nat_tests}
use Rattle.std.proofs.lemmas.List.{length-map}
use Rattle.std.proofs.lemmas.Option.{slice_get_past}
use Rattle.sn_ast.specs.declared.declaration.FunDecl.{FunDecl}
use Rattle.sn_ast.specs.declared.label.Tuple.{Tuple}
use Rattle.sn_box_scope.specs.Expressions.{output_number}
use Rattle.sn_box_scope.specs.Functions.{builtin_named, called_size, function_number, size_of}
use Rattle.sn_names.specs.Names.{number_in}
use Rattle.sn_net.specs.Boxes.{builtin_size, has_size}
use Rattle.sn_net.specs.declared.expr.BuiltinKind.{BuiltinKind}
use Rattle.sn_scope_rules.specs.Boxes.{arguments_of, output_at}

abbrev params_of : FunDecl → ℕ
params_of fun = length fun.params

first_size : (funs : List FunDecl) (name : List ℕ) → slice_get (each params_of funs) (number_in (each (λ fun. fun.name.text) funs) name) ≡ option_map params_of (find (λ fun. bytes_eq fun.name.text name) funs)
first_size [] name = refl
first_size (fun ∷ funs) name =
    elim (bytes_eq fun.name.text name) as (λ b. slice_get (each params_of (fun ∷ funs)) (if b then 0 else suc (number_in (each (λ fun. fun.name.text) funs) name)) ≡ option_map params_of (cond b (Some fun) (find (λ fun. bytes_eq fun.name.text name) funs))) [
      | true ↦ refl
      | false ↦ first_size funs name
    ]

-- the size of what is called
pub called_is : (funs : List FunDecl) (name : List ℕ) → called_size funs name ≡ arguments_of funs name
called_is funs name = known (builtin_named name)
  where
    known : (builtin : Option BuiltinKind) → size_of builtin (slice_get (each params_of funs) (function_number funs name)) ≡ option_or (option_map builtin_size builtin) (option_map params_of (find (λ fun. bytes_eq fun.name.text name) funs))
    known (Some one) = refl
    known None = first_size funs name

abbrev labels_of : Tuple → ℕ
labels_of tuple = length tuple.labels

get_each : (outputs : List Tuple) (k : ℕ) → slice_get (each labels_of outputs) k ≡ option_map labels_of (slice_get outputs k)
get_each [] k = refl
get_each (output ∷ outputs) zero = refl
get_each (output ∷ outputs) (suc k) = get_each outputs k

past_all : (outputs : List Tuple) (k : ℕ) → length outputs ≤ k → slice_get (each labels_of outputs) k ≡ None
past_all outputs k past = slice_get_past (each labels_of outputs) k (subst (λ n. n ≤ k) (sym (length-map outputs labels_of)) past)

-- the size of the output tuple
output_size : (outputs : List Tuple) (n : ℕ) → slice_get (each labels_of outputs) (output_number (length outputs) n) ≡ option_map labels_of (output_at outputs n)
output_size outputs zero = past_all outputs (length outputs) (omega arith)
output_size outputs (suc k) =
    ap (λ b. slice_get (each labels_of outputs) (if b && nat_le (suc k) (length outputs) then suc k - 1 else length outputs)) one
    ∙ (elim (nat_le (suc k) (length outputs)) as (λ b. nat_le (suc k) (length outputs) ≡ b → slice_get (each labels_of outputs) (if b then suc k - 1 else length outputs) ≡ option_map labels_of (slice_get outputs k)) [
      | true ↦ λ _. ap (slice_get (each labels_of outputs)) fewer ∙ get_each outputs k
      | false ↦ λ above. past_all outputs (length outputs) (omega arith) ∙ sym (ap (option_map labels_of) (slice_get_past outputs k (beyond above)))
    ]) refl
  where
    one : nat_le 1 (suc k) ≡ true
    one = grind (arith, nat_tests)

    fewer : suc k - 1 ≡ k
    fewer = omega arith

    beyond : nat_le (suc k) (length outputs) ≡ false → length outputs ≤ k
    beyond above = grind (arith, nat_tests, above)

-- whether the output tuple takes so many
abbrev pub takes : Option Tuple → ℕ → Bool
takes None count = false
takes (Some output) count = length output.labels == count

pub output_takes : (outputs : List Tuple) (n count : ℕ) → has_size (each labels_of outputs) (output_number (length outputs) n) count ≡ takes (output_at outputs n) count
output_takes outputs n count = ap (λ size. unwrap_or (option_map (λ s. s == count) size) false) (output_size outputs n) ∙ known (output_at outputs n)
  where
    known : (output : Option Tuple) → unwrap_or (option_map (λ s. s == count) (option_map labels_of output)) false ≡ takes output count
    known None = refl
    known (Some output) = refl
