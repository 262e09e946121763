-- The nodes at which items of a dispatcher's children come in.
use Rattle.std.proofs.Common.{◌≡◌, ℕ, zero, suc, ◌+◌, ◌-◌, ◌<◌, ◌≤◌, List, [], ◌∷◌, ◌++◌, map, take, length, get_or, sym, ap, ◌∙◌, arith}
use Rattle.sn_view.specs.View as view
use Rattle.sn_view.specs.View.{rest_of}
use Rattle.sn_node.specs.Child.{child_of}
use Rattle.sn_node.specs.declared.children.Child.{Child}

-- the entries of the children, one more
pub entries_more : (cs : List Child) (i : ℕ) (child : Child) → (es new : List ℕ) → 1 ≤ i → i < length cs → child ≡ get_or cs i child
    → es ≡ take (i - 1) (map (λ (c : view.Child). c.entry) (rest_of (map child_of cs))) → new ≡ es ++ child.entry ∷ []
    → new ≡ take (i + 1 - 1) (map (λ (c : view.Child). c.entry) (rest_of (map child_of cs)))
entries_more [] i child es new some within read so_far pushed = absurd (omega (arith, within))
entries_more (first ∷ cs) zero child es new some within read so_far pushed = absurd (omega (arith, some))
entries_more (first ∷ cs) (suc i) child es new some within read so_far pushed =
    let inside : i < length cs = omega (arith, within) in
    let m : suc i - 1 ≡ i = omega arith in
    let n : suc i + 1 - 1 ≡ i + 1 = omega arith in
    pushed ∙ ap (λ xs. xs ++ child.entry ∷ []) (so_far ∙ ap (λ j. take j (map (λ (c : view.Child). c.entry) (map child_of cs))) m)
    ∙ sym (ap (λ j. take j (map (λ (c : view.Child). c.entry) (map child_of cs))) n ∙ more cs i child inside read)
  where
    more : (cs : List Child) (i : ℕ) (child : Child) → i < length cs → child ≡ get_or cs i child
        → take (i + 1) (map (λ (c : view.Child). c.entry) (map child_of cs)) ≡ take i (map (λ (c : view.Child). c.entry) (map child_of cs)) ++ child.entry ∷ []
    more [] i child inside read = absurd (omega (arith, inside))
    more (x ∷ cs) zero child inside read = ap (λ (c : Child). c.entry ∷ []) (sym read)
    more (x ∷ cs) (suc i) child inside read =
        let e : suc i + 1 ≡ suc (i + 1) = omega arith in
        ap (λ j. take j (map (λ (c : view.Child). c.entry) (map child_of (x ∷ cs)))) e ∙ ap (λ xs. x.entry ∷ xs) (more cs i child (omega (arith, inside)) read)
