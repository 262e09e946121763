-- What holds of all that waits holds without the last of it.
use Rattle.std.proofs.Common.{◌≡◌, ℕ, zero, suc, ◌-◌, ◌<◌, ◌≤◌, Bool, false, List, [], ◌∷◌, map, length, take, refl, sym, ap, subst, ◌∙◌, arith}
use Rattle.std.specs.Prelude.{slice_get, Some}
use Rattle.std.specs.List.{list_any}
use Rattle.std.proofs.lemmas.List.{length-map}
use Rattle.std.proofs.lemmas.Option.{none-some}
use Rattle.sn_model.specs.declared.run.Run.{Run}
use Rattle.sn_node.specs.Answered.{AreAnswered}
use Rattle.sn_node.specs.declared.entry.Waiting.{Waiting}
use Rattle.sn_node.proofs.Free.{none_among_fewer}

take_fewer : {X : Type 0} (xs : List X) (n m : ℕ) → n ≤ m → take n (take m xs) ≡ take n xs
take_fewer xs zero m few = refl
take_fewer [] (suc n) zero few = refl
take_fewer [] (suc n) (suc m) few = refl
take_fewer (x ∷ xs) (suc n) zero few = absurd (omega (arith, few))
take_fewer (x ∷ xs) (suc n) (suc m) few = ap (λ ys. x ∷ ys) (take_fewer xs n m (omega (arith, few)))

pub none_among_first : {X : Type 0} (f : X → Bool) (xs : List X) (n m called : ℕ) → n ≤ m → n ≤ called → list_any f (take called xs) ≡ false → list_any f (take n (take m xs)) ≡ false
none_among_first f xs n m called few less none = ap (λ ys. list_any f ys) (take_fewer xs n m few) ∙ none_among_fewer f xs n called less none

pub take_within : {X : Type 0} (xs : List X) (n m : ℕ) → n ≤ m → m ≤ length xs → n ≤ length (take m xs)
take_within xs zero m few within = omega arith
take_within xs (suc n) zero few within = absurd (omega (arith, few))
take_within [] (suc n) (suc m) few within = absurd (omega (arith, within))
take_within (x ∷ xs) (suc n) (suc m) few within = let le : n ≤ length (take m xs) = take_within xs n m (omega (arith, few)) (omega (arith, within)) in omega (arith, le)

taken_there : {X : Type 0} (xs : List X) (n p : ℕ) (x : X) → slice_get (take n xs) p ≡ Some x → slice_get xs p ≡ Some x
taken_there xs zero p x there = absurd (none-some x there)
taken_there [] (suc n) p x there = absurd (none-some x there)
taken_there (y ∷ xs) (suc n) zero x there = there
taken_there (y ∷ xs) (suc n) (suc p) x there = taken_there xs n p x there

pub answered_before : (run : Run) (path : List ℕ) (n : ℕ) (old new : List Waiting) → new ≡ take n old → AreAnswered run path old → AreAnswered run path new
answered_before run path n old new is all = subst (AreAnswered run path) (sym is) (λ p given items there. all p given items (taken_there old n p _ there))

pub seen_take : {X Y : Type 0} (v : X → Y) (n : ℕ) (xs : List X) → map v (take n xs) ≡ take n (map v xs)
seen_take v zero xs = refl
seen_take v (suc n) [] = refl
seen_take v (suc n) (x ∷ xs) = ap (λ ys. v x ∷ ys) (seen_take v n xs)

pub seen_last : {X Y : Type 0} (v : X → Y) (xs ys : List X) → ys ≡ take (length xs - 1) xs → map v ys ≡ take (length (map v xs) - 1) (map v xs)
seen_last v xs ys is = ap (map v) is ∙ seen_take v (length xs - 1) xs ∙ ap (λ n. take (n - 1) (map v xs)) (sym (length-map xs v))
