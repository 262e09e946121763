-- Which variants are among others, and that a look-up of keys finds those.
use Rattle.std.proofs.Common.{◌≡◌, Bool, true, false, not, ◌||◌, IsTrue, ◌↔◌, Decides, List, [], ◌∷◌, ◌++◌, length, if◌then◌else◌, map as each, refl, sym, ap, ◌∙◌}
use Rattle.std.specs.Bool.{one_answer}
use Rattle.std.specs.List.{Contains, list_any}
use Rattle.std.specs.FinMap as map
use Rattle.std.specs.Cmp.Lexicographic.{pointwise, pointwise_decides}
use Rattle.std.proofs.lemmas.List.{length-map}
use Rattle.std.proofs.lemmas.List.Folds.{list_any_at}
use Rattle.std.proofs.lemmas.Map.Views.{Contains-from_any}
use Rattle.sn_record.specs.declared.label.Label.{Label}
use Rattle.sn_record.specs.LabelSet.{Labels}
use Rattle.sn_scope.specs.Variants.{is_same, is_among, added}
use Rattle.sn_scope.specs.Keys.{label_Decides, entry_eq, set_Decides}

-- entries with nothing at each label are their labels
same_entries : (es fs : List (Label × Unit {0})) → each (λ e. e.0) es ≡ each (λ e. e.0) fs → es ≡ fs
same_entries es fs same = sym (with_nothing es) ∙ ap (each (λ l. (l, tt))) same ∙ with_nothing fs
  where
    with_nothing : (es : List (Label × Unit {0})) → each (λ l. (l, tt)) (each (λ e. e.0) es) ≡ es
    with_nothing [] = refl
    with_nothing (e ∷ es) = ap (λ rest. e ∷ rest) (with_nothing es)

-- variants with the same labels are one
pub is_same_Decides : (v w : Labels) → Decides (is_same v w) (v ≡ w)
is_same_Decides v w =
    let labels = pointwise_decides label_Decides (map.keys v) (map.keys w) in
    (λ tie. map.same_entries_map v w (same_entries (map.entries v) (map.entries w) (labels.0 tie)), λ same. labels.1 (ap (λ (u : Labels). map.keys u) same))

-- the test is whether the variant is an element of the list
pub is_among-Contains : (vs : List Labels) (v : Labels) → Contains vs v ↔ IsTrue (is_among vs v)
is_among-Contains vs v = (
  λ there. list_any_at (is_same v) vs there.0 v there.1 ((is_same_Decides v _).1 (sym there.2)),
  λ passes. Contains-from_any (λ w x same. (is_same_Decides w x).0 same) v vs passes,
)

-- the number of labels
pub length-keys : (v : Labels) → length (map.keys v) ≡ map.len v
length-keys v = length-map (map.entries v) (λ e. e.0) ∙ sym (map.len-entries v)

module _ {K : Type 0} (set : K → Labels) where
  -- a key is found where its variant is among those of the keys
  pub found : (keys : List K) (v : Labels) → list_any (λ k. pointwise entry_eq (map.entries v) (map.entries (set k))) keys ≡ is_among (each set keys) v
  found [] v = refl
  found (k ∷ keys) v = λ i. one_answer _ _ (set_Decides v (set k)) (is_same_Decides v (set k)) i || found keys v i

  -- what adding a variant gives, by whether its key is new
  pub added_is : (keys : List K) (sets : List Labels) (v w : Labels) (fresh : Bool) → sets ≡ each set keys → w ≡ v
      → fresh ≡ not (list_any (λ k. pointwise entry_eq (map.entries w) (map.entries (set k))) keys) → added sets v ≡ (if fresh then sets ++ v ∷ [] else sets)
  added_is keys sets v w fresh tied same is =
      turned (is_among sets v) ∙ ap (λ b. if b then sets ++ v ∷ [] else sets) (sym (is ∙ ap not (found keys w ∙ λ i. is_among (sym tied i) (same i))))
    where
      turned : (b : Bool) → (if b then sets else sets ++ v ∷ []) ≡ (if not b then sets ++ v ∷ [] else sets)
      turned true = refl
      turned false = refl
