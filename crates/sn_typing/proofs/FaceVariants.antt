-- The face variants of a choice as a list, and what can be decided of them.
use Rattle.std.proofs.Common.{◌≡◌, ◌⊎◌, inl, inr, ℕ, zero, suc, ◌<◌, List, [], ◌∷◌, Some, unwrap_or, refl, sym, ap, subst}
use Rattle.std.specs.Prelude.{slice_get}
use Rattle.std.specs.List.{Contains}
use Rattle.std.specs.FinMap as map
use Rattle.std.proofs.Math.Decide.{map_dec, dec_lt, ℕ_discrete}
use Rattle.sn_record.specs.LabelSet.{Labels}
use Rattle.sn_typing.specs.Flow.{IsFaceVariant, IsBeaten, HasFace}
use Rattle.sn_typing.proofs.Listed.{Among, Listed, among_contained, contained_among, dec_both, dec_either, dec_some}
use Rattle.sn_typing.proofs.Listed.{listed_among, listed_as, listed_both, listed_either, listed_none, listed_one, listed_through}
use Rattle.sn_typing.proofs.SubsetLists.{dec_fits}

-- the variant at a branch
abbrev pub placed : ℕ → Labels → ℕ × Labels
placed i w = (i, w)

abbrev pub IsFace : List (List Labels) → ℕ × Labels → Type 0
IsFace faces p = IsFaceVariant faces p.0 p.1

-- of the first face, or of one behind it
abbrev IsFirst : List Labels → ℕ × Labels → Type 0
IsFirst face p = (w : Labels) × Among face w × (placed 0 w ≡ p)

abbrev IsLater : List (List Labels) → ℕ × Labels → Type 0
IsLater faces p = (q : ℕ × Labels) × IsFace faces q × (placed (suc q.0) q.1 ≡ p)

to_face : (face : List Labels) (faces : List (List Labels)) (p : ℕ × Labels) → IsFirst face p ⊎ IsLater faces p → IsFace (face ∷ faces) p
to_face face faces p (inl (w, among, same)) =
    subst (IsFace (face ∷ faces)) same (record { face = face; here = refl; listed = among_contained face w among })
to_face face faces p (inr (q, is, same)) = subst (IsFace (face ∷ faces)) same (record { face = is.face; here = is.here; listed = is.listed })

from_face : (face : List Labels) (faces : List (List Labels)) (p : ℕ × Labels) → IsFace (face ∷ faces) p → IsFirst face p ⊎ IsLater faces p
from_face face faces (zero, w) is =
    let same : is.face ≡ face = sym (ap (λ o. unwrap_or o face) is.here) in
    inl (w, contained_among face w (subst (λ f. Contains f w) same is.listed), refl)
from_face face faces (suc i, w) is = inr (placed i w, record { face = is.face; here = is.here; listed = is.listed }, refl)

pub face_variants : (faces : List (List Labels)) → Listed (IsFace faces)
face_variants [] = listed_none (λ p is. no_face is.face is.here)
  where
    no_face : (face : List Labels) → slice_get {X = List Labels} [] 0 ≡ Some face → ⊥
    no_face face e = cc
face_variants (face ∷ faces) =
    let first = listed_through (λ w p. placed 0 w ≡ p) (listed_among face) (λ w. listed_one (placed 0 w)) in
    let later = listed_through (λ q p. placed (suc q.0) q.1 ≡ p) (face_variants faces) (λ q. listed_one (placed (suc q.0) q.1)) in
    listed_as (to_face face faces) (from_face face faces) (listed_either first later)

pub dec_has_face : (faces : List (List Labels)) (v : Labels) → Dec (HasFace faces v)
dec_has_face faces v = map_dec
    (λ (p, (own, fit)). record { branch = p.0; variant = p.1; own = own; fits = fit })
    (λ has. (placed has.branch has.variant, (has.own, has.fits)))
    (dec_some (listed_both (face_variants faces) (λ p. dec_fits p.1 v)))

pub dec_beaten : (faces : List (List Labels)) (i : ℕ) (w s : Labels) → Dec (IsBeaten faces i w s)
dec_beaten faces i w s = map_dec
    (λ (p, (other, (fit, before))). record { branch = p.0; variant = p.1; other = other; fits = fit; before = before })
    (λ beaten. (placed beaten.branch beaten.variant, (beaten.other, (beaten.fits, beaten.before))))
    (dec_some (listed_both (face_variants faces) (λ p. dec_both (dec_fits p.1 s) (before p))))
  where
    before : (p : ℕ × Labels) → Dec ((map.len w < map.len p.1) ⊎ ((map.len p.1 ≡ map.len w) × (p.0 < i)))
    before p = dec_either (dec_lt (map.len w) (map.len p.1)) (dec_both (ℕ_discrete (map.len p.1) (map.len w)) (dec_lt p.0 i))
