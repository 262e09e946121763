-- What is kept of a measured part is put together as the part is.
use Rattle.std.proofs.Common.{◌≡◌, Some, None, refl, arith}
use Rattle.std.proofs.lemmas.Bool.Decides.{nat_tests}
use Rattle.sn_ast.specs.Kept.{keep, kept}
use Rattle.sn_ast.specs.Measures.{measured, IsWithin}
use Rattle.sn_ast.specs.declared.measure.Measured.{Measured}
use Rattle.sn_ast.proofs.Maps.{Map}

pub keep_leaf : {A : Type 0} (a : A) → keep (measured.leaf a) ≡ kept.leaf a
keep_leaf a = refl

pub keep_each : {A B : Type 0} (f : A → B) (p : Measured A) → keep (measured.each f p) ≡ kept.each f (keep p)
keep_each f p = grind (arith, nat_tests)

pub keep_join : {A B C : Type 0} (f : A → B → C) (p : Measured A) (q : Measured B) → keep (measured.join f p q) ≡ kept.join f (keep p) (keep q)
keep_join f p q = grind (arith, nat_tests)

pub keep_raise : {A : Type 0} (p : Measured A) → keep (measured.raise p) ≡ kept.raise (keep p)
keep_raise p = grind (arith, nat_tests)

pub keep_parens : {A : Type 0} (p : Measured A) → keep (measured.parens p) ≡ kept.parens (keep p)
keep_parens p = grind (arith, nat_tests)

abbrev pub keeping : Map measured kept
keeping = record {
  map = keep;
  of_leaf = keep_leaf;
  of_each = keep_each;
  of_join = keep_join;
  of_raise = keep_raise;
  of_parens = keep_parens;
}

-- What is kept is the part, and it is kept exactly within the limits.
pub kept_part : {A : Type 0} (p q : Measured A) → keep p ≡ Some q → IsWithin p × (p ≡ q)
kept_part p q e = grind (arith, nat_tests)

pub not_within : {A : Type 0} (p : Measured A) → keep p ≡ None → IsWithin p → ⊥
not_within p e w = grind (arith, nat_tests)

pub is_kept : {A : Type 0} (p : Measured A) → IsWithin p → keep p ≡ Some p
is_kept p w = grind (arith, nat_tests)
