-- What is taken of a choice: the best that fits, where the binding tags are alike.
use Rattle.std.proofs.Common.{◌≡◌, ◌||◌, ℕ, Bool, true, false, List, refl, ◌∙◌}
use Rattle.sn_record.specs.LabelSet.{Labels, contains, union}
use Rattle.sn_record.specs.Fits.{BindAlike, Fits}
use Rattle.sn_record.proofs.Fitting.{bind_alike_through, bind_alike_turned, subset_fits}
use Rattle.sn_record.proofs.Sets.{contains-union, IsSubset-union_left, IsSubset-union_right}
use Rattle.sn_typing.specs.Flow.{IsBeaten, IsFaceVariant, MayTake}

-- the face of branch i has the variant w, and within s no other is taken in its place
pub record IsUnbeaten (faces : List (List Labels)) (i : ℕ) (w s : Labels) : Type 0 where
  pub own : IsFaceVariant faces i w
  pub best : IsBeaten faces i w s → ⊥

pub taken_unbeaten : (faces : List (List Labels)) (i : ℕ) (w v : Labels) → MayTake faces i w v → IsUnbeaten faces i w (union v w)
taken_unbeaten faces i w v taken = record { own = taken.own; best = taken.best }

pub unbeaten_taken : (faces : List (List Labels)) (i : ℕ) (w v : Labels) → BindAlike w v → IsUnbeaten faces i w (union v w) → MayTake faces i w v
unbeaten_taken faces i w v alike unbeaten = record { own = unbeaten.own; alike = alike; best = unbeaten.best }

either_same : (a b : Bool) → a ≡ b → (b || a) ≡ b
either_same true true e = refl
either_same true false e = cc
either_same false true e = refl
either_same false false e = refl

-- with labels of as many binding tags there are no more of these
pub union_alike : (v w : Labels) → BindAlike w v → BindAlike (union v w) v
union_alike v w alike l binds = contains-union v w l ∙ either_same (contains w l) (contains v l) (alike l binds)

pub alike_union : (v w : Labels) → BindAlike w v → BindAlike w (union v w)
alike_union v w alike = bind_alike_through w v (union v w) alike (bind_alike_turned (union v w) v (union_alike v w alike))

pub fits_union : (v w : Labels) → BindAlike w v → Fits w (union v w)
fits_union v w alike = subset_fits w (union v w) (IsSubset-union_right v w) (alike_union v w alike)

pub left_fits_union : (v w : Labels) → BindAlike w v → Fits v (union v w)
left_fits_union v w alike = subset_fits v (union v w) (IsSubset-union_left v w) (bind_alike_turned (union v w) v (union_alike v w alike))
