-- Records whose labels all pass a test, and what is made of them.
use Rattle.std.proofs.Common.{◌≡◌, ℕ, zero, suc, ◌||◌, ◌&&◌, Bool, true, false, not, is_some, IsTrue, List, [], ◌∷◌, ◌++◌, Option, None, Some, refl, sym, ap, ◌∙◌, subst}
use Rattle.std.specs.Prelude.{slice_get}
use Rattle.std.specs.List.{AllByRecursion as Each, list_any}
use Rattle.std.specs.Option.{option_or}
use Rattle.std.specs.Ordering.{eq_by_cmp}
use Rattle.std.specs.FinMap as map
use Rattle.sn_record.specs.declared.label.Label.{Label}
use Rattle.sn_record.specs.declared.value.Value.{Value}
use Rattle.sn_record.specs.Label.{label_cmp}
use Rattle.sn_record.specs.LabelSet.{Labels, contains}
use Rattle.sn_record.specs.Record.{Entries, inherit, overlay}
use Rattle.sn_record.proofs.Maps.{same_label, ties_itself}
use Rattle.sn_record.proofs.Records.{contains_key-inherit, contains_key-insert, get-overlay}
use Rattle.sn_labels.specs.Labels.{is_among, is_label}
use Rattle.sn_labels.specs.Flowing.{HasOnly}

-- TESTS
pub or_first : (a b : Bool) → IsTrue a → IsTrue (a || b)
or_first true b h = refl
or_first false b h = cc

pub or_second : (a b : Bool) → IsTrue b → IsTrue (a || b)
or_second true b h = refl
or_second false b h = h

-- each label that passes one test passes the other
abbrev pub Covers : (Label → Bool) → (Label → Bool) → Type 0
Covers known test = (l : Label) → IsTrue (test l) → IsTrue (known l)

pub label_itself : (label : Label) → IsTrue (is_label label label)
label_itself label = ties_itself label

-- what holds of a list by one test of each element
module _ {A : Type 0} where
  pub each_covered : (known : Label → Bool) (test : A → Label → Bool) (xs : List A) → Covers known (λ l. list_any (λ x. test x l) xs) → Each (λ x. Covers known (test x)) xs
  each_covered known test [] covers = tt
  each_covered known test (x ∷ xs) covers = (
    λ l there. covers l (or_first (test x l) (list_any (λ x. test x l) xs) there),
    each_covered known test xs (λ l there. covers l (or_second (test x l) (list_any (λ x. test x l) xs) there)),
  )

  -- an element of a list, by its number
  pub each_at : (P : A → Type 0) (xs : List A) (i : ℕ) (x : A) → Each P xs → slice_get xs i ≡ Some x → P x
  each_at P [] i x each at = cc
  each_at P (y ∷ xs) zero x each at = let same : y ≡ x = cc in subst P same each.0
  each_at P (y ∷ xs) (suc i) x each at = each_at P xs i x each.1 at

  pub each_push : (P : A → Type 0) (xs : List A) (x : A) → Each P xs → P x → Each P (xs ++ x ∷ [])
  each_push P [] x each h = (h, tt)
  each_push P (y ∷ xs) x each h = (each.0, each_push P xs x each.1 h)

  pub each_both : (P : A → Type 0) (xs ys : List A) → Each P xs → Each P ys → Each P (xs ++ ys)
  each_both P [] ys first second = second
  each_both P (x ∷ xs) ys first second = (first.0, each_both P xs ys first.1 second)

-- RECORDS
module _ (known : Label → Bool) where
  pub only_empty : HasOnly known map.empty
  only_empty l there = absurd (differ (sym (ap is_some (map.get-empty label_cmp l)) ∙ there))
    where
      differ : false ≡ true → ⊥
      differ e = cc

  pub only_insert : (r : Entries) (label : Label) (value : Value) → HasOnly known r → IsTrue (known label) → HasOnly known (map.insert r label value)
  only_insert r label value only is l there = at (eq_by_cmp label_cmp l label) refl (sym (contains_key-insert r label value l) ∙ there)
    where
      at : (b : Bool) → eq_by_cmp label_cmp l label ≡ b → IsTrue (b || map.contains_key r l) → IsTrue (known l)
      at true same h = subst (λ (x : Label). IsTrue (known x)) (sym (same_label l label same)) is
      at false other h = only l h

  pub only_overlay : (o r : Entries) → HasOnly known o → HasOnly known r → HasOnly known (overlay o r)
  only_overlay o r first second l there = at (map.get o l) refl (sym (ap is_some (get-overlay o r l)) ∙ there)
    where
      at : (x : Option Value) → map.get o l ≡ x → IsTrue (is_some (option_or x (map.get r l))) → IsTrue (known l)
      at None same h = second l h
      at (Some value) same h = first l (ap is_some same)

  pub only_inherit : (r : Entries) (named : Labels) (made : Entries) → HasOnly known r → HasOnly known made → HasOnly known (inherit r named made)
  only_inherit r named made from own l there =
      at (map.contains_key made l) (contains named l) (own l) (from l) (sym (contains_key-inherit r named made l) ∙ there)
    where
      at : (a b : Bool) → (IsTrue a → IsTrue (known l)) → (IsTrue (map.contains_key r l) → IsTrue (known l)) → IsTrue (a || (not b && map.contains_key r l)) → IsTrue (known l)
      at true b first second h = first refl
      at false true first second h = cc
      at false false first second h = second h

  -- each of these labels passes
  pub each_among : (labels : List Label) → Covers known (is_among labels) → Each (λ label. IsTrue (known label)) labels
  each_among [] covers = tt
  each_among (label ∷ labels) covers = (
    covers label (or_first (is_label label label) (is_among labels label) (label_itself label)),
    each_among labels (λ l there. covers l (or_second (is_label label l) (is_among labels l) there)),
  )
