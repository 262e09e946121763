-- Lists with an index: what the index tells of them.
use Rattle.std.proofs.Common.{◌≡◌, ◌||◌, ℕ, zero, suc, ◌<◌, Bool, true, false, cond, List, [], ◌∷◌, ◌++◌, length, map as each, get_or, Bor, None, Some, Option, is_some, refl, sym, ap, ◌∙◌, subst, arith}
use Rattle.std.specs.Prelude.{if◌then◌else◌}
use Rattle.std.proofs.lemmas.Option.{none-some}
use Rattle.std.specs.BTreeMap.{BTreeMap, get}
use Rattle.std.specs.Cmp.{both_ways, tied_itself, Equal-is}
use Rattle.std.specs.Cmp.Lexicographic.{slice_cmp, lists_total}
use Rattle.std.specs.FinMap as map
use Rattle.std.specs.FinMap.{slice_cmp-IsAntisymmetric}
use Rattle.std.specs.List.{list_any}
use Rattle.std.specs.Option.{option_copied, option_map, option_or}
use Rattle.std.specs.Ordering.{is_eq}
use Rattle.sn_record.specs.declared.label.Label.{Label}
use Rattle.sn_record.specs.Label.{label_cmp, label_cmp_total, label_cmp-IsAntisymmetric}
use Rattle.sn_record.specs.LabelSet.{Labels}
use Rattle.sn_types.specs.RecordType.{is_same}
use Rattle.sn_net.specs.Face.{variant_cmp}
use Rattle.sn_net.proofs.Orders.{same_variant, variant_cmp_total}
use Rattle.sn_flow.specs.Places.{Key, Tells, first_of, key_cmp, place_in}
use Rattle.sn_flow.proofs.Adding.{is_same_itself, same_is}

true≢false : true ≡ false → ⊥
true≢false e = cc

-- variants tie exactly where they are one
pub tie_test : (v w : Labels) → is_eq (variant_cmp v w) ≡ is_same w v
tie_test v w =
    both_ways (is_eq (variant_cmp v w)) (is_same w v)
    (λ tied. subst (λ u. is_same u v ≡ true) (same_variant v w tied) (is_same_itself v))
    (λ same. subst (λ u. is_eq (variant_cmp v u) ≡ true) (sym (same_is w v same)) (ap is_eq (tied_itself variant_cmp_total v)))

-- equal lists of labels tie, and no others
tied_lists : (ks ls : List Label) → is_eq (slice_cmp label_cmp ks ls) ≡ true → ks ≡ ls
tied_lists ks ls tied = slice_cmp-IsAntisymmetric label_cmp-IsAntisymmetric ks ls ((Equal-is (slice_cmp label_cmp ks ls)).0 tied)

list_ties : (ks : List Label) → is_eq (slice_cmp label_cmp ks ks) ≡ true
list_ties ks = ap is_eq (tied_itself (lists_total label_cmp_total) ks)

-- ---- what is found

-- a reference is there where its value is
pub copied_some : {A : Type 0} (o : Option (Bor A)) → is_some o ≡ is_some (option_copied o)
copied_some None = refl
copied_some (Some x) = refl

-- at the place of the variant stands the first that is of it
pub record IsPlaced {X : Type 0} (variant_of : X → Labels) (xs : List X) (v : Labels) (i : ℕ) : Type 0 where
  pub within : i < length xs
  pub is : is_some (first_of variant_of xs v) ≡ true
  pub found : (d : X) → first_of variant_of xs v ≡ Some (get_or xs i d)

module _ {X : Type 0} (variant_of : X → Labels) (v : Labels) where
  -- the place of what is of the variant
  abbrev pub place_of : List X → Option ℕ
  place_of xs = place_in (each variant_of xs) (map.keys v)

  place_by : (x : X) (xs : List X) (b : Bool) → is_same (variant_of x) v ≡ b → place_of (x ∷ xs) ≡ cond b (Some zero) (option_map suc (place_of xs))
  place_by x xs b is = ap (λ t. cond t (Some zero) (option_map suc (place_of xs))) (tie_test v (variant_of x) ∙ is)

  first_by : (x : X) (xs : List X) (b : Bool) → is_same (variant_of x) v ≡ b → first_of variant_of (x ∷ xs) v ≡ cond b (Some x) (first_of variant_of xs v)
  first_by x xs b is = ap (λ t. cond t (Some x) (first_of variant_of xs v)) is

  is_first : (x : X) (xs : List X) (i : ℕ) → is_same (variant_of x) v ≡ true → Some zero ≡ Some i → IsPlaced variant_of (x ∷ xs) v i
  is_first x xs i same is =
      let none : zero ≡ i = cc in
      subst (IsPlaced variant_of (x ∷ xs) v) none (record { within = omega arith; is = ap is_some (first_by x xs true same); found = λ d. first_by x xs true same })

  is_later : (x : X) (xs : List X) (i : ℕ) (place : Option ℕ) → is_same (variant_of x) v ≡ false → ((j : ℕ) → place ≡ Some j → IsPlaced variant_of xs v j) → option_map suc place ≡ Some i
      → IsPlaced variant_of (x ∷ xs) v i
  is_later x xs i None other rest is = absurd (none-some i is)
  is_later x xs i (Some j) other rest is =
      let next : suc j ≡ i = cc in
      let at = rest j refl in
      subst (IsPlaced variant_of (x ∷ xs) v) next (record {
        within = omega (arith, at.within);
        is = ap is_some (first_by x xs false other) ∙ at.is;
        found = λ d. first_by x xs false other ∙ at.found d;
      })

  pub placed : (xs : List X) (i : ℕ) → place_of xs ≡ Some i → IsPlaced variant_of xs v i
  placed [] i there = absurd (none-some i there)
  placed (x ∷ xs) i there =
      elim (is_same (variant_of x) v) as (λ b. is_same (variant_of x) v ≡ b → IsPlaced variant_of (x ∷ xs) v i) [
        | true ↦ λ same. is_first x xs i same (sym (place_by x xs true same) ∙ there)
        | false ↦ λ other. is_later x xs i (place_of xs) other (λ j later. placed xs j later) (sym (place_by x xs false other) ∙ there)
      ] refl

  not_later : (x : X) (xs : List X) (place : Option ℕ) → (place ≡ None → first_of variant_of xs v ≡ None) → option_map suc place ≡ None → first_of variant_of xs v ≡ None
  not_later x xs None rest is = rest refl
  not_later x xs (Some j) rest is = absurd (none-some (suc j) (sym is))

  pub missing : (xs : List X) → place_of xs ≡ None → first_of variant_of xs v ≡ None
  missing [] none = refl
  missing (x ∷ xs) none =
      elim (is_same (variant_of x) v) as (λ b. is_same (variant_of x) v ≡ b → first_of variant_of (x ∷ xs) v ≡ None) [
        | true ↦ λ same. absurd (none-some zero (sym none ∙ place_by x xs true same))
        | false ↦ λ other. first_by x xs false other ∙ not_later x xs (place_of xs) (λ later. missing xs later) (sym (place_by x xs false other) ∙ none)
      ] refl

  -- whether something is of it
  pub found_any : (xs : List X) → is_some (first_of variant_of xs v) ≡ list_any (λ x. is_same (variant_of x) v) xs
  found_any [] = refl
  found_any (x ∷ xs) = elim (is_same (variant_of x) v) as (λ b. is_some (cond b (Some x) (first_of variant_of xs v)) ≡ (b || list_any (λ y. is_same (variant_of y) v) xs)) [
    | true ↦ refl
    | false ↦ found_any xs
  ]

  -- where nothing is, there is no place
  pub no_place : (xs : List X) → list_any (λ x. is_same (variant_of x) v) xs ≡ false → place_of xs ≡ None
  no_place xs none = at (place_of xs) refl
    where
      at : (place : Option ℕ) → place_of xs ≡ place → place ≡ None
      at None is = refl
      at (Some i) is = absurd (true≢false (sym (placed xs i is).is ∙ found_any xs ∙ none))

-- ---- one more

-- a variant that is put behind others has its place there, where none of them has its labels
place_push : (vs : List Labels) (v : Labels) (labels : List Label)
    → place_in (vs ++ v ∷ []) labels ≡ option_or (place_in vs labels) (if is_eq (slice_cmp label_cmp labels (map.keys v)) then Some (length vs) else None)
place_push [] v labels = refl
place_push (w ∷ vs) v labels =
    ap (λ place. cond (is_eq (slice_cmp label_cmp labels (map.keys w))) (Some zero) (option_map suc place)) (place_push vs v labels)
    ∙ elim (is_eq (slice_cmp label_cmp labels (map.keys w))) as (λ b. cond b (Some zero) (option_map suc (option_or (place_in vs labels) (cond (is_eq (slice_cmp label_cmp labels (map.keys v))) (Some (length vs)) None)))
    ≡ option_or (cond b (Some zero) (option_map suc (place_in vs labels))) (cond (is_eq (slice_cmp label_cmp labels (map.keys v))) (Some (suc (length vs))) None)) [
      | true ↦ refl
      | false ↦ next (place_in vs labels) (is_eq (slice_cmp label_cmp labels (map.keys v)))
    ]
  where
    next : (place : Option ℕ) (b : Bool) → option_map suc (option_or place (cond b (Some (length vs)) None)) ≡ option_or (option_map suc place) (cond b (Some (suc (length vs))) None)
    next None true = refl
    next None false = refl
    next (Some i) b = refl

-- the index with the place of a new variant
pub tells_push : (old new : BTreeMap Key ℕ) (vs : List Labels) (v : Labels) (key : Key) (place : ℕ) → Tells old vs → key.items ≡ map.keys v → place_in vs (map.keys v) ≡ None → place ≡ length vs
    → ((q : Key) → get key_cmp new q ≡ cond (is_eq (key_cmp key q)) (Some place) (get key_cmp old q)) → Tells new (vs ++ v ∷ [])
tells_push old new vs v key place told is_key none last updates q =
    updates q ∙ at (is_eq (key_cmp key q)) refl ∙ sym (place_push vs v q.items)
  where
    at : (b : Bool) → is_eq (key_cmp key q) ≡ b → cond b (Some place) (get key_cmp old q) ≡ option_or (place_in vs q.items) (cond (is_eq (slice_cmp label_cmp q.items (map.keys v))) (Some (length vs)) None)
    at true tied =
        let same : q.items ≡ map.keys v = sym (tied_lists key.items q.items tied) ∙ is_key in
        ap (λ n. Some n) last
        ∙ sym (ap (λ b. option_or (place_in vs q.items) (cond b (Some (length vs)) None)) (ap (λ ks. is_eq (slice_cmp label_cmp ks (map.keys v))) same ∙ list_ties (map.keys v))
        ∙ ap (λ o. option_or o (Some (length vs))) (ap (place_in vs) same ∙ none))
    at false apart =
        told q
        ∙ sym (ap (λ b. option_or (place_in vs q.items) (cond b (Some (length vs)) None)) (other (is_eq (slice_cmp label_cmp q.items (map.keys v))) refl) ∙ or_none (place_in vs q.items))
      where
        other : (b : Bool) → is_eq (slice_cmp label_cmp q.items (map.keys v)) ≡ b → b ≡ false
        other true ties =
            let same : q.items ≡ key.items = tied_lists q.items (map.keys v) ties ∙ sym is_key in
            absurd (true≢false (sym (ap (λ ks. is_eq (slice_cmp label_cmp key.items ks)) same ∙ list_ties key.items) ∙ apart))
        other false ties = refl

        or_none : (o : Option ℕ) → option_or o None ≡ o
        or_none None = refl
        or_none (Some i) = refl
