-- Maps by label, and the lists of their entries.
use Rattle.std.proofs.Common.{◌≡◌, ℕ, zero, suc, ◌<◌, ◌&&◌, ◌||◌, Bool, true, false, cond, is_some, IsTrue, ◌↔◌, List, [], ◌∷◌, ◌++◌, length, get_or, None, Some, Option, refl, sym, ap, ◌∙◌, subst, arith, T}
use Rattle.std.specs.Prelude.{map as each, slice_get}
use Rattle.std.specs.List.{filter, list_all, list_any}
use Rattle.std.specs.Option.{option_or, option_map}
use Rattle.std.specs.Ordering.{eq_by_cmp, is_eq, is_lt, ordering_reverse}
use Rattle.std.specs.declared.cmp.Ordering.TheVariants.{Less, Equal, Greater}
use Rattle.std.specs.Cmp.{tied_itself}
use Rattle.std.specs.FinMap as map
use Rattle.std.specs.FinMap.{find, put, is_sorted}
use Rattle.std.specs.FinMap.Entries.{below_all, find-where_key, is_sorted-put, is_sorted-where_key}
use Rattle.std.proofs.Flags.{T_true}
use Rattle.std.proofs.lemmas.Grind.{common_steps}
use Rattle.std.proofs.lemmas.Option.{slice_get-map, slice_get_within, get_or_from_slice_get}
use Rattle.sn_record.specs.declared.label.Label.{Label}
use Rattle.sn_record.specs.InOrder.{IsInOrder}
use Rattle.sn_record.specs.Label.{label_cmp, label_cmp_total, label_cmp-IsAntisymmetric}

as_test : (b : Bool) → b ≡ true → T b
as_test b e = subst T (sym e) tt

-- a label ties with itself
pub ties_itself : (l : Label) → eq_by_cmp label_cmp l l ≡ true
ties_itself l = ap is_eq (tied_itself label_cmp_total l)

-- labels that tie are one
pub same_label : (l k : Label) → eq_by_cmp label_cmp l k ≡ true → l ≡ k
same_label l k e =
    elim (label_cmp l k) as (λ r. label_cmp l k ≡ r → is_eq r ≡ true → l ≡ k) [
      | Less ↦ λ less no. cc
      | Equal ↦ λ equal _. label_cmp-IsAntisymmetric l k equal
      | Greater ↦ λ greater no. cc
    ] refl e

-- a test answers alike at labels that tie
pub alike : {X : Type 0} (p : Label → X) (l k : Label) → label_cmp l k ≡ Equal → p k ≡ p l
alike p l k equal = ap p (sym (label_cmp-IsAntisymmetric l k equal))

-- the second choice is for where there is no first
pub option_or-none : {A : Type 0} (x : Option A) → option_or x None ≡ x
option_or-none None = refl
option_or-none (Some x) = refl

-- whether there is one of the two
pub is_some-cond : {A : Type 0} (b : Bool) (x : A) (y : Option A) → is_some (cond b (Some x) y) ≡ (b || is_some y)
is_some-cond true x y = refl
is_some-cond false x y = refl

module _ {V : Type 0} where
  pub entries-from_sorted : (es : List (Label × V)) → IsTrue (is_sorted label_cmp es) → map.entries (map.from_sorted {R = label_cmp} es) ≡ es
  entries-from_sorted es rises = map.entries-from_sorted label_cmp es (as_test _ rises)

  pub get-from_sorted : (es : List (Label × V)) (q : Label) → IsTrue (is_sorted label_cmp es) → map.get (map.from_sorted {R = label_cmp} es) q ≡ find label_cmp q es
  get-from_sorted es q rises = map.get-from_sorted label_cmp es q (as_test _ rises)

  pub len-from_sorted : (es : List (Label × V)) → IsTrue (is_sorted label_cmp es) → map.len (map.from_sorted {R = label_cmp} es) ≡ length es
  len-from_sorted es rises = map.len-entries _ ∙ ap length (entries-from_sorted es rises)

  is_sorted_put : (q : Label) (v : V) (es : List (Label × V)) → IsTrue (is_sorted label_cmp es) → IsTrue (is_sorted label_cmp (put label_cmp q v es))
  is_sorted_put q v es rises = T_true _ (is_sorted-put label_cmp label_cmp_total q v es (as_test _ rises))

  pub from_sorted-put : (q : Label) (v : V) (es : List (Label × V)) → IsTrue (is_sorted label_cmp es) → map.from_sorted (put label_cmp q v es) ≡ map.insert (map.from_sorted {R = label_cmp} es) q v
  from_sorted-put q v es rises =
      map.same_entries_map _ _ (entries-from_sorted _ (is_sorted_put q v es rises) ∙ sym (map.entries-insert label_cmp_total _ q v ∙ ap (put label_cmp q v) (entries-from_sorted es rises)))

  abbrev no_entries : List (Label × V)
  no_entries = []

  pub from_sorted-empty : map.from_sorted no_entries ≡ map.empty {X = V} {R = label_cmp}
  from_sorted-empty = map.same_map label_cmp_total label_cmp-IsAntisymmetric _ _ (λ q. get-from_sorted [] q refl ∙ sym (map.get-empty label_cmp q))

  -- a map's entries are in order
  pub is_sorted-entries : (m : map.FinMap label_cmp V) → IsTrue (is_sorted label_cmp (map.entries m))
  is_sorted-entries m = T_true _ (map.entries_sorted m)

  pub from_sorted-entries : (m : map.FinMap label_cmp V) → map.from_sorted (map.entries m) ≡ m
  from_sorted-entries m = map.same_entries_map _ _ (entries-from_sorted _ (is_sorted-entries m))

  -- the entries at some of the labels are in order
  pub is_sorted-filter : (p : Label → Bool) (m : map.FinMap label_cmp V) → IsTrue (is_sorted label_cmp (filter (λ e. p e.0) (map.entries m)))
  is_sorted-filter p m = T_true _ (is_sorted-where_key label_cmp p (map.entries m) (map.entries_sorted m))

  pub get-retain_keys : (m : map.FinMap label_cmp V) (p : Label → Bool) (q : Label) → map.get (map.retain_keys m p) q ≡ cond (p q) (map.get m q) None
  get-retain_keys m p q = map.get-retain_keys m p q (alike p q)

  pub find-filter : (p : Label → Bool) (q : Label) (es : List (Label × V)) → find label_cmp q (filter (λ e. p e.0) es) ≡ cond (p q) (find label_cmp q es) None
  find-filter p q es = find-where_key label_cmp p q (alike p q) es

  pub from_sorted-filter : (p : Label → Bool) (m : map.FinMap label_cmp V) → map.from_sorted (filter (λ e. p e.0) (map.entries m)) ≡ map.retain_keys m p
  from_sorted-filter p m =
      map.same_map label_cmp_total label_cmp-IsAntisymmetric _ _
      (λ q. get-from_sorted _ q (is_sorted-filter p m) ∙ find-filter p q (map.entries m) ∙ ap (λ x. cond (p q) x None) (sym (map.get-entries m q)) ∙ sym (get-retain_keys m p q))

  -- a map's entries, also after a copy
  pub is_sorted-same : (m : map.FinMap label_cmp V) (es : List (Label × V)) → es ≡ map.entries m → IsTrue (is_sorted label_cmp es)
  is_sorted-same m es same = subst (λ xs. IsTrue (is_sorted label_cmp xs)) (sym same) (is_sorted-entries m)

  pub from_sorted-same : (m : map.FinMap label_cmp V) (es : List (Label × V)) → es ≡ map.entries m → map.from_sorted es ≡ m
  from_sorted-same m es same = ap map.from_sorted same ∙ from_sorted-entries m

  -- a map's entries at some of its labels, also after a copy
  pub is_sorted-kept : (p : Label → Bool) (m : map.FinMap label_cmp V) (es : List (Label × V)) → es ≡ filter (λ e. p e.0) (map.entries m) → IsTrue (is_sorted label_cmp es)
  is_sorted-kept p m es same = subst (λ xs. IsTrue (is_sorted label_cmp xs)) (sym same) (is_sorted-filter p m)

  pub from_sorted-kept : (p : Label → Bool) (m : map.FinMap label_cmp V) (es : List (Label × V)) → es ≡ filter (λ e. p e.0) (map.entries m) → map.from_sorted es ≡ map.retain_keys m p
  from_sorted-kept p m es same = ap map.from_sorted same ∙ from_sorted-filter p m

  -- entries that were brought into order are those of their map
  pub from_sorted-in_order : (es made : List (Label × V)) → IsInOrder label_cmp es made → map.from_sorted made ≡ map.from_entries {R = label_cmp} es
  from_sorted-in_order es made ordered =
      map.same_map label_cmp_total label_cmp-IsAntisymmetric _ _ (λ q. get-from_sorted made q ordered.rises ∙ ordered.finds q ∙ sym (map.get-from_entries label_cmp_total es q))

  find-append : (q : Label) (xs ys : List (Label × V)) → find label_cmp q (xs ++ ys) ≡ option_or (find label_cmp q xs) (find label_cmp q ys)
  find-append q [] ys = refl
  find-append q (x ∷ xs) ys =
      elim (eq_by_cmp label_cmp q x.0) as (λ b. cond b (Some x.1) (find label_cmp q (xs ++ ys)) ≡ option_or (cond b (Some x.1) (find label_cmp q xs)) (find label_cmp q ys)) [
        | true ↦ refl
        | false ↦ find-append q xs ys
      ]

  -- where two maps are joined, the first one has its way
  pub get-append : (m n : map.FinMap label_cmp V) (q : Label) → map.get (map.from_entries {R = label_cmp} (map.entries m ++ map.entries n)) q ≡ option_or (map.get m q) (map.get n q)
  get-append m n q =
      map.get-from_entries label_cmp_total (map.entries m ++ map.entries n) q ∙ find-append q (map.entries m) (map.entries n)
      ∙ sym (λ i. option_or (map.get-entries m q i) (map.get-entries n q i))

  below_at : (k : Label) (es : List (Label × V)) (i : ℕ) (d : Label × V) → IsTrue (below_all label_cmp k es) → i < length es → label_cmp k (get_or es i d).0 ≡ Less
  below_at k [] i d below within = absurd (omega arith)
  below_at k (e ∷ es) zero d below within =
      elim (label_cmp k e.0) as (λ r. (is_lt r && below_all label_cmp k es) ≡ true → r ≡ Less) [ Less ↦ λ _. refl | Equal ↦ λ no. cc | Greater ↦ λ no. cc ] below
  below_at k (e ∷ es) (suc i) d below within = below_at k es i d (grind (arith, common_steps, below)) (omega arith)

  find_at : (es : List (Label × V)) (i : ℕ) (d : Label × V) → IsTrue (is_sorted label_cmp es) → i < length es → find label_cmp (get_or es i d).0 es ≡ Some (get_or es i d).1
  find_at [] i d rises within = absurd (omega arith)
  find_at (e ∷ es) zero d rises within = rw (ties_itself e.0) refl
  find_at (e ∷ es) (suc i) d rises within =
      let less : label_cmp e.0 (get_or es i d).0 ≡ Less = below_at e.0 es i d (grind (arith, common_steps, rises)) (omega arith) in
      let more : label_cmp (get_or es i d).0 e.0 ≡ Greater = label_cmp_total.antisymm (get_or es i d).0 e.0 ∙ ap ordering_reverse less in
      rw (more) (find_at es i d (grind (arith, common_steps, rises)) (omega arith))

  -- what stands at the label of the i-th entry is the entry's value
  pub get-slice_get : (m : map.FinMap label_cmp V) (i : ℕ) (l : Label) (v : V) → slice_get (map.entries m) i ≡ Some (l, v) → map.get m l ≡ Some v
  get-slice_get m i l v is =
      let here : get_or (map.entries m) i (l, v) ≡ (l, v) = get_or_from_slice_get (map.entries m) i (l, v) (l, v) is in
      map.get-entries m l
      ∙ subst (λ (e : Label × V). find label_cmp e.0 (map.entries m) ≡ Some e.1) here (find_at (map.entries m) i (l, v) (is_sorted-entries m) (slice_get_within (map.entries m) i (l, v) is))

  -- the i-th key is the label of the i-th entry
  pub slice_get-keys : (m : map.FinMap label_cmp V) (i : ℕ) (l : Label) (v : V) → slice_get (map.entries m) i ≡ Some (l, v) → slice_get (map.keys m) i ≡ Some l
  slice_get-keys m i l v is = slice_get-map (λ (e : Label × V). e.0) (map.entries m) i ∙ ap (option_map (λ (e : Label × V). e.0)) is

-- a test that each label of a map's entries passes, and that each label of the map does
module _ {V : Type 0} (p : Label → Bool) where
  all_of_each : (es : List (Label × V)) → ((l : Label) → list_any (eq_by_cmp label_cmp l) (each (λ e. e.0) es) ≡ true → p l ≡ true) → list_all (λ e. p e.0) es ≡ true
  all_of_each [] passes = refl
  all_of_each (e ∷ es) passes =
      let first : p e.0 ≡ true = passes e.0 (rw (ties_itself e.0) refl) in
      let rest = all_of_each es (λ l there. passes l (grind (arith, common_steps, there))) in
      rw (first) rest

  each_of_all : (es : List (Label × V)) → list_all (λ e. p e.0) es ≡ true → (l : Label) → list_any (eq_by_cmp label_cmp l) (each (λ e. e.0) es) ≡ true → p l ≡ true
  each_of_all [] all l there = cc
  each_of_all (e ∷ es) all l there =
      elim (eq_by_cmp label_cmp l e.0) as (λ b. eq_by_cmp label_cmp l e.0 ≡ b → p l ≡ true) [
        | true ↦ λ ties. ap p (same_label l e.0 ties) ∙ grind (arith, common_steps, all)
        | false ↦ λ ties. each_of_all es (grind (arith, common_steps, all)) l (grind (arith, common_steps, there, ties))
      ] refl

  pub list_all-entries : (m : map.FinMap label_cmp V) → IsTrue (list_all (λ e. p e.0) (map.entries m)) ↔ ((l : Label) → IsTrue (map.contains_key m l) → IsTrue (p l))
  list_all-entries m = (
    λ all l there. each_of_all (map.entries m) all l (sym (map.contains_key-keys m l) ∙ there),
    λ passes. all_of_each (map.entries m) (λ l there. passes l (map.contains_key-keys m l ∙ there)),
  )
