-- What a name stands for, and where that stands.
use Rattle.std.proofs.Common.{◌≡◌, ℕ, Bool, true, false, ◌||◌, cond, if◌then◌else◌, List, [], ◌∷◌, ◌++◌, find, Option, Some, None, option_map, refl, ap, ◌∙◌}
use Rattle.std.specs.Option.{option_or}
use Rattle.sn_ast.specs.declared.declaration.Decl.{Decl}
use Rattle.sn_scope_rules.specs.Visible.{Around, first_named, found_at, further_on, has_name, is_declared, stands_for, within}

abbrev pub Found : Type 0
Found = Option (Decl × List Decl)

abbrev pub first_step : Decl → Found → Bool → Found
first_step d more b = if b then Some (d, []) else option_map (further_on d) more

abbrev first_of : Decl × List Decl → Decl
first_of found = found.0

abbrev pub decl_of : Decl × Around → Decl
decl_of found = found.0

first_found : (name : List ℕ) (decls : List Decl) → option_map first_of (first_named name decls) ≡ find (has_name name) decls
first_found name [] = refl
first_found name (d ∷ ds) = elim (has_name name d) as (λ b. option_map first_of (first_step d (first_named name ds) b) ≡ cond b (Some d) (find (has_name name) ds)) [
  | true ↦ refl
  | false ↦ more (first_named name ds) ∙ first_found name ds
]
  where
    more : (found : Found) → option_map first_of (option_map (further_on d) found) ≡ option_map first_of found
    more None = refl
    more (Some f) = refl

-- the declaration that is found is what the name stands for
pub found_stands : (around : Around) (name : List ℕ) → option_map decl_of (found_at around name) ≡ stands_for around name
found_stands [] name = refl
found_stands (decls ∷ outer) name = either (first_named name decls) (found_at outer name) ∙ (λ i. option_or (first_found name decls i) (found_stands outer name i))
  where
    either : (one : Found) (other : Option (Decl × Around)) → option_map decl_of (option_or (option_map (within outer) one) other) ≡ option_or (option_map first_of one)
        (option_map decl_of other)
    either None other = refl
    either (Some f) other = refl

-- a declaration more
pub first_old : (name : List ℕ) (decls more : List Decl) → is_declared decls name ≡ true → first_named name (decls ++ more) ≡ first_named name decls
first_old name [] more there = cc
first_old name (d ∷ ds) more there = (elim (has_name name d) as (λ b. (b || is_declared ds name) ≡ true
    → first_step d (first_named name (ds ++ more)) b ≡ first_step d (first_named name ds) b) [
      | true ↦ λ _. refl
      | false ↦ λ rest. ap (option_map (further_on d)) (first_old name ds more rest)
    ]) there

pub first_none : (name : List ℕ) (decls : List Decl) → is_declared decls name ≡ false → first_named name decls ≡ None
first_none name [] none = refl
first_none name (d ∷ ds) none = (elim (has_name name d) as (λ b. (b || is_declared ds name) ≡ false → first_step d (first_named name ds) b ≡ None) [
  | true ↦ λ no. cc
  | false ↦ λ rest. ap (option_map (further_on d)) (first_none name ds rest)
]) none

pub first_new : (name : List ℕ) (decls : List Decl) (d : Decl) (b : Bool) → is_declared decls name ≡ false → has_name name d ≡ b
    → first_named name (decls ++ d ∷ []) ≡ (if b then Some (d, decls) else None)
first_new name [] d b none is = ap (first_step d None) is
first_new name (e ∷ ds) d b none is = (elim (has_name name e) as (λ c. (c || is_declared ds name) ≡ false
    → first_step e (first_named name (ds ++ d ∷ [])) c ≡ (if b then Some (d, e ∷ ds) else None)) [
      | true ↦ λ no. cc
      | false ↦ λ rest. ap (option_map (further_on e)) (first_new name ds d b rest is) ∙ over b
    ]) none
  where
    over : (b : Bool) → option_map (further_on e) (if b then Some (d, ds) else None) ≡ (if b then Some (d, e ∷ ds) else None)
    over true = refl
    over false = refl
