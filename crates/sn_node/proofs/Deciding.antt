-- Decisions that are noted, changed and taken away.
use Rattle.std.proofs.Common.{◌≡◌, List, [], ◌∷◌, ◌++◌, map, refl, ap, ◌∙◌}
use Rattle.sn_view.specs.View.{Entry, Turn, State, InTurn, rest_of}

abbrev first_or : {X : Type 0} → X → List X → X
first_or d [] = d
first_or d (x ∷ xs) = x

-- what is seen as a list with a last element is one
pub last_seen : {X Y : Type 0} (v : X → Y) (xs : List X) (ys : List Y) (y : Y) → map v xs ≡ ys ++ y ∷ []
    → (before : List X) × (x : X) × (xs ≡ before ++ x ∷ []) × (map v before ≡ ys)
last_seen v [] [] y is = absurd (cc)
last_seen v [] (z ∷ ys) y is = absurd (cc)
last_seen v (x ∷ []) [] y is = ([], x, refl, refl)
last_seen v (x ∷ x2 ∷ xs) [] y is = absurd (let none : v x2 ∷ map v xs ≡ [] = ap rest_of is in cc)
last_seen v (x ∷ xs) (z ∷ ys) y is =
    let r = last_seen v xs ys y (ap rest_of is) in
    (x ∷ r.0, r.1, ap (λ l. x ∷ l) r.2, ap (λ a. a ∷ map v r.0) (ap (first_or z) is) ∙ ap (λ l. z ∷ l) r.3)

abbrev turns_of : State → List (Entry Turn)
turns_of (InTurn ds) = ds
turns_of other = []

-- equal states have equal decisions
pub same_turns : (ds es : List (Entry Turn)) → InTurn ds ≡ InTurn es → ds ≡ es
same_turns ds es is = ap turns_of is
