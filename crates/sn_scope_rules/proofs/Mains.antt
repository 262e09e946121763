-- Which of several nets with a signature is the last outermost `main`.
use Rattle.std.proofs.Common.{◌≡◌, ℕ, suc, ◌<◌, ◌+◌, ◌==◌, ◌&&◌, Bool, true, false, if◌then◌else◌, List, [], ◌∷◌, ◌++◌, length, Option, Some, None, slice_get, ◌⊎◌, inl, inr, refl, sym, ap, ◌∙◌, arith}
use Rattle.std.proofs.lemmas.Bool.Decides.{nat_tests}
use Rattle.std.proofs.lemmas.Option.{none-some, same_Some}
use Rattle.sn_ast.specs.declared.declaration.Decl.{Decl}
use Rattle.sn_scope_rules.specs.Claims.{Signed, SignedIn, is_main}
use Rattle.sn_scope_rules.specs.Claims.SignedIn.{no_more, no_net, signed_net, unsigned_net}
use Rattle.sn_scope_rules.specs.Standing.{StandsIn}
use Rattle.sn_scope_rules.specs.Standing.StandsIn.{here, later}
use Rattle.sn_scope_rules.specs.Visible.{Around}
use Rattle.sn_scope_rules.proofs.Standing.{none_in}

abbrev pub main_from : ℕ → Option ℕ → List Signed → Option ℕ
main_from place found [] = found
main_from place found (net ∷ nets) = main_from (suc place) (if is_main net then Some place else found) nets

pub main_append : (place : ℕ) (found : Option ℕ) (xs ys : List Signed) → main_from place found (xs ++ ys) ≡ main_from (place + length xs) (main_from place found xs) ys
main_append place found [] ys = ap (λ p. main_from p found ys) (omega arith)
main_append place found (x ∷ xs) ys =
    main_append (suc place) (if is_main x then Some place else found) xs ys
    ∙ ap (λ p. main_from p (main_from (suc place) (if is_main x then Some place else found) xs) ys) (omega arith)

-- no net within another is the program's
pub not_outermost : (outer : Around) (name : Bool) → 0 < length outer → ((suc (length outer) == 1) && name) ≡ false
not_outermost [] name within = absurd (omega (arith, within))
not_outermost (decls ∷ outer) name within =
    let is : (suc (suc (length outer)) == 1) ≡ false = grind (arith, nat_tests) in
    ap (λ b. b && name) is

pub inner_main : (before : List Decl) (outer : Around) (decls : List Decl) (nets : List Signed) → SignedIn before outer decls nets → 0 < length outer
    → (place : ℕ) (found : Option ℕ) → main_from place found nets ≡ found
inner_main before outer decls nets no_more within place found = refl
inner_main before outer decls nets (no_net kind rest) within place found = inner_main _ _ _ _ rest within place found
inner_main before outer decls nets (unsigned_net {inner} {more} net at none own rest) within place found =
    main_append place found inner more ∙ ap (λ f. main_from (place + length inner) f more) (inner_main _ _ _ _ own (omega arith) place found)
    ∙ inner_main _ _ _ _ rest within (place + length inner) found
inner_main before outer decls nets (signed_net {inner} {more} net sig at some own rest) within place found =
    ap (λ b. main_from (suc place) (if b then Some place else found) (inner ++ more)) (not_outermost outer _ within)
    ∙ main_append (suc place) found inner more ∙ ap (λ f. main_from (suc place + length inner) f more) (inner_main _ _ _ _ own (omega arith) (suc place) found)
    ∙ inner_main _ _ _ _ rest within (suc place + length inner) found

-- the one that is found is among the nets, or was found before
abbrev pub Within : List Signed → ℕ → ℕ → Type 0
Within nets place i = (k : ℕ) × (net : Signed) × (i ≡ place + k) × (slice_get nets k ≡ Some net) × (is_main net ≡ true)

pub main_found : (place : ℕ) (found : Option ℕ) (nets : List Signed) (i : ℕ) → main_from place found nets ≡ Some i → (found ≡ Some i) ⊎ Within nets place i
main_found place found [] i is = inl is
main_found place found (net ∷ nets) i is = either (main_found (suc place) (if is_main net then Some place else found) nets i is)
  where
    own : (b : Bool) → is_main net ≡ b → (if b then Some place else found) ≡ Some i → (found ≡ Some i) ⊎ Within (net ∷ nets) place i
    own true main same = let at = same_Some place i same in inr (0, net, omega (arith, at), refl, main)
    own false main same = inl same

    either : ((if is_main net then Some place else found) ≡ Some i) ⊎ Within nets (suc place) i → (found ≡ Some i) ⊎ Within (net ∷ nets) place i
    either (inl same) = own (is_main net) refl same
    either (inr one) = let at = one.2 in inr (suc one.0, one.1, omega (arith, at), one.3, one.4)

-- where none is found, none is the program's
pub main_none : (place : ℕ) (found : Option ℕ) (nets : List Signed) → main_from place found nets ≡ None → (found ≡ None) × ((net : Signed) → StandsIn net nets → is_main net ≡ false)
main_none place found [] is = (is, λ net at. absurd (none_in net at))
main_none place found (net ∷ nets) is =
    let rest = main_none (suc place) (if is_main net then Some place else found) nets is in
    let one = own (is_main net) refl rest.0 in
    (one.0, λ other at. of_all one.1 rest.1 other at)
  where
    own : (b : Bool) → is_main net ≡ b → (if b then Some place else found) ≡ None → (found ≡ None) × (is_main net ≡ false)
    own true main same = absurd (none-some place (sym same))
    own false main same = (same, main)

    of_all : is_main net ≡ false → ((other : Signed) → StandsIn other nets → is_main other ≡ false) → (other : Signed) → StandsIn other (net ∷ nets) → is_main other ≡ false
    of_all first rest other here = first
    of_all first rest other (later at) = rest other at
