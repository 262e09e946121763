-- Variants in ascending order, each once: such a list is settled by which variants it holds.
use Rattle.std.proofs.Common.{◌≡◌, Bool, true, false, ◌||◌, ◌↔◌, IsTrue, List, [], ◌∷◌, ◌++◌, None, Some, Option, is_some, map as each, refl, sym, ap, ◌∙◌, subst}
use Rattle.std.specs.List.{Contains, AllByRecursion, list_any}
use Rattle.std.specs.List.Sorted.{IsStrictlySortedBy}
use Rattle.std.specs.Ordering.{eq_by_cmp, is_eq, is_lt}
use Rattle.std.specs.declared.cmp.Ordering.{Ordering}
use Rattle.std.specs.declared.cmp.Ordering.TheVariants.{Less, Equal, Greater}
use Rattle.std.specs.Cmp.{both_ways, eq_by_cmp_equiv}
use Rattle.std.specs.FinMap as map
use Rattle.std.specs.FinMap.{FinMap, IsAntisymmetric, put, is_sorted}
use Rattle.std.specs.FinMap.Entries.{by_order, below_all}
use Rattle.std.proofs.Flags.{T_true}
use Rattle.std.proofs.lemmas.Bool.{and_parts}
use Rattle.std.proofs.lemmas.List.{nil_from_length}
use Rattle.std.proofs.lemmas.List.Folds.{list_any-append, Any-from_list_any, list_any-from_Any}
use Rattle.std.proofs.lemmas.Map.Keys.{sorted_head, sorted_tail}
use Rattle.std.proofs.lemmas.Map.Views.{list_any-from_Contains}
use Rattle.sn_record.specs.LabelSet.{Labels}
use Rattle.sn_net.specs.declared.expr.BoxProgram.{BoxProgram}
use Rattle.sn_net.specs.declared.net.Net.{Net}
use Rattle.sn_net.specs.Face.{variant_cmp, variants, ascending, face, IsFace}
use Rattle.sn_net.proofs.Orders.{variant_cmp_total, same_variant}

-- both lists hold the same variants, so a test passes at one of each or of neither
abbrev pub HoldAlike : List Labels → List Labels → Type 0
HoldAlike xs ys = (test : Labels → Bool) → list_any test xs ≡ list_any test ys

-- ---- a list and what it holds

holds_over : (xs ys : List Labels) → ((v : Labels) → Contains xs v → Contains ys v) → (test : Labels → Bool) → IsTrue (list_any test xs) → IsTrue (list_any test ys)
holds_over xs ys over test passes =
    let found = Any-from_list_any test xs passes in
    let there = over found.1 (found.0, found.2, found.3) in
    list_any-from_Any test ys (there.0, found.1, there.1, there.2, found.4)

pub alike_from_same : (xs ys : List Labels) → ((v : Labels) → Contains xs v ↔ Contains ys v) → HoldAlike xs ys
alike_from_same xs ys same test = both_ways _ _ (holds_over xs ys (λ v. (same v).0) test) (holds_over ys xs (λ v. (same v).1) test)

contains_over : (xs ys : List Labels) → HoldAlike xs ys → (v : Labels) → Contains xs v → Contains ys v
contains_over xs ys alike v there =
    let found = Any-from_list_any (eq_by_cmp variant_cmp v) ys (sym (alike (eq_by_cmp variant_cmp v)) ∙ list_any-from_Contains (eq_by_cmp_equiv variant_cmp_total) v xs there) in
    subst (Contains ys) (sym (same_variant v found.1 found.4)) (found.0, found.2, found.3)

pub same_from_alike : (xs ys : List Labels) → HoldAlike xs ys → (v : Labels) → Contains xs v ↔ Contains ys v
same_from_alike xs ys alike v = (contains_over xs ys alike v, contains_over ys xs (λ test. sym (alike test)) v)

pub alike-append : (xs ys us vs : List Labels) → HoldAlike xs ys → HoldAlike us vs → HoldAlike (xs ++ us) (ys ++ vs)
alike-append xs ys us vs first second test = list_any-append test xs us ∙ (λ i. first test i || second test i) ∙ sym (list_any-append test ys vs)

list_any-map : (test : Labels → Bool) (f : Labels → Labels) (xs : List Labels) → list_any test (each f xs) ≡ list_any (λ x. test (f x)) xs
list_any-map test f [] = refl
list_any-map test f (x ∷ xs) = ap (λ b. test (f x) || b) (list_any-map test f xs)

pub alike-map : (f : Labels → Labels) (xs ys : List Labels) → HoldAlike xs ys → HoldAlike (each f xs) (each f ys)
alike-map f xs ys alike test = list_any-map test f xs ∙ alike (λ x. test (f x)) ∙ sym (list_any-map test f ys)

-- ---- the entries of a map with nothing at each variant

abbrev Entries : Type 0
Entries = List (Labels × Unit {0})

abbrev firsts : Entries → List Labels
firsts es = each (λ e. e.0) es

abbrev set_of : List Labels → FinMap variant_cmp (Unit {0})
set_of sets = map.from_entries {X = Unit {0}} {R = variant_cmp} (each (λ variant. (variant, tt)) sets)

antisymmetric : IsAntisymmetric variant_cmp
antisymmetric v w ties = same_variant v w (ap is_eq ties)

ascending-nil : ascending [] ≡ []
ascending-nil = ap firsts (nil_from_length _ (sym (map.len-entries (set_of [])) ∙ map.len-empty variant_cmp (Unit {0})))

ascending-cons : (v : Labels) (vs : List Labels) → ascending (v ∷ vs) ≡ firsts (put variant_cmp v tt (map.entries (set_of vs)))
ascending-cons v vs = ap firsts (map.entries-insert variant_cmp_total (set_of vs) v tt)

-- ---- what an ascending list holds

or_swapped : (a b c : Bool) → (b || (a || c)) ≡ (a || (b || c))
or_swapped true true c = refl
or_swapped true false c = refl
or_swapped false b c = refl

or_twice : (a c : Bool) → (a || c) ≡ (a || (a || c))
or_twice true c = refl
or_twice false c = refl

-- one variant more
list_any-put : (test : Labels → Bool) (v : Labels) (es : Entries) → list_any test (firsts (put variant_cmp v tt es)) ≡ (test v || list_any test (firsts es))
list_any-put test v [] = refl
list_any-put test v (e ∷ es) =
    elim (variant_cmp v e.0) as (λ r. variant_cmp v e.0 ≡ r → list_any test (firsts (by_order r ((v, tt) ∷ e ∷ es) ((e.0, tt) ∷ es) (e ∷ put variant_cmp v tt es))) ≡ (test v || (test e.0 || list_any test (firsts es)))) [
      | Less ↦ λ _. refl
      | Equal ↦ λ ties. subst (λ w. (test w || list_any test (firsts es)) ≡ (test v || (test w || list_any test (firsts es)))) (antisymmetric v e.0 ties) (or_twice (test v) _)
      | Greater ↦ λ _. ap (λ b. test e.0 || b) (list_any-put test v es) ∙ or_swapped (test v) (test e.0) _
    ] refl

-- it holds what was given
pub ascending-alike : (xs : List Labels) → HoldAlike (ascending xs) xs
ascending-alike [] test = ap (list_any test) ascending-nil
ascending-alike (v ∷ vs) test = ap (list_any test) (ascending-cons v vs) ∙ list_any-put test v (map.entries (set_of vs)) ∙ ap (λ b. test v || b) (ascending-alike vs test)

-- ---- it ascends

is_less : (r : Ordering) → IsTrue (is_lt r) → r ≡ Less
is_less Less e = refl
is_less Equal e = cc
is_less Greater e = cc

all_below : (v : Labels) (es : Entries) → IsTrue (below_all variant_cmp v es) → AllByRecursion (λ w. variant_cmp v w ≡ Less) (firsts es)
all_below v [] below = tt
all_below v (e ∷ es) below = let both = and_parts _ _ below in (is_less _ both.0, all_below v es both.1)

firsts_ascend : (es : Entries) → IsTrue (is_sorted variant_cmp es) → IsStrictlySortedBy variant_cmp (firsts es)
unfolding IsStrictlySortedBy
firsts_ascend [] rises = tt
firsts_ascend (e ∷ es) rises = let both = and_parts _ _ rises in (all_below e.0 es both.0, firsts_ascend es both.1)

pub ascending-ascends : (xs : List Labels) → IsStrictlySortedBy variant_cmp (ascending xs)
ascending-ascends xs = firsts_ascend _ (T_true _ (map.entries_sorted (set_of xs)))

-- ---- it is settled by what it holds

same_unit : (x y : Option (Unit {0})) → is_some x ≡ is_some y → x ≡ y
same_unit None None e = refl
same_unit None (Some y) e = cc
same_unit (Some x) None e = cc
same_unit (Some x) (Some y) e = refl

-- what holds the same becomes the same list
pub ascending-settled : (xs ys : List Labels) → HoldAlike xs ys → ascending xs ≡ ascending ys
ascending-settled xs ys alike =
    let found : (v : Labels) (zs : List Labels) → map.contains_key (set_of zs) v ≡ list_any (eq_by_cmp variant_cmp v) zs = λ v zs. map.contains_key-keys (set_of zs) v ∙ ascending-alike zs (eq_by_cmp variant_cmp v) in
    ap map.keys (map.same_map variant_cmp_total antisymmetric (set_of xs) (set_of ys) (λ v. same_unit _ _ (found v xs ∙ alike (eq_by_cmp variant_cmp v) ∙ sym (found v ys))))

-- a variant below all others goes first
put_first : (v : Labels) (es : Entries) → AllByRecursion (λ w. variant_cmp v w ≡ Less) (firsts es) → put variant_cmp v tt es ≡ (v, tt) ∷ es
put_first v [] below = refl
put_first v (e ∷ es) below = ap (λ r. by_order r ((v, tt) ∷ e ∷ es) ((e.0, tt) ∷ es) (e ∷ put variant_cmp v tt es)) below.0

-- what ascends stays as it is
pub ascending-same : (xs : List Labels) → IsStrictlySortedBy variant_cmp xs → ascending xs ≡ xs
ascending-same [] rises = ascending-nil
ascending-same (v ∷ vs) rises =
    let rest = ascending-same vs (sorted_tail variant_cmp v vs rises) in
    ascending-cons v vs
    ∙ ap firsts (put_first v (map.entries (set_of vs)) (subst (AllByRecursion (λ w. variant_cmp v w ≡ Less)) (sym rest) (sorted_head variant_cmp v vs rises)))
    ∙ ap (λ ws. v ∷ ws) rest

-- as one variant does
pub ascending-one : (v : Labels) → ascending (v ∷ []) ≡ v ∷ []
unfolding IsStrictlySortedBy
ascending-one v = ascending-same (v ∷ []) (tt, tt)

-- so it is the one list that ascends and holds what was given
pub only_ascending : (xs ys : List Labels) → IsStrictlySortedBy variant_cmp xs → ((v : Labels) → Contains xs v ↔ Contains ys v) → xs ≡ ascending ys
only_ascending xs ys rises same = sym (ascending-same xs rises) ∙ ascending-settled xs ys (alike_from_same xs ys same)

-- the face of a network ascends, and holds its variants
pub face_is : (boxes : List BoxProgram) (net : Net) → IsFace boxes net (face boxes net)
face_is boxes net = record {
  ascending = ascending-ascends (variants boxes net);
  same = same_from_alike (face boxes net) (variants boxes net) (ascending-alike (variants boxes net));
}
