-- Where something stands.
use Rattle.std.specs.Prelude.{List, [], ◌∷◌}

-- an element of the list
pub data StandsIn {A : Type 0} (x : A) : List A → Type 0 where
  here : {xs : List A} → StandsIn x (x ∷ xs)
  later : {y : A} {xs : List A} → StandsIn x xs → StandsIn x (y ∷ xs)

-- an element of a list, and those before it
pub data StandsBehind {A : Type 0} (x : A) : List A → List A → Type 0 where
  foremost : {xs : List A} → StandsBehind x [] (x ∷ xs)
  further : {y : A} {before xs : List A} → StandsBehind x before xs → StandsBehind x (y ∷ before) (y ∷ xs)

-- the whole itself, or what stands within one of its parts
pub data StandsWithin {A : Type 0} (parts : A → List A) (x : A) : A → Type 0 where
  itself : StandsWithin parts x x
  deeper : {whole part : A} → StandsIn part (parts whole) → StandsWithin parts x part → StandsWithin parts x whole

-- lists of one length, each element of the one beside that at its place in the other
abbrev pub Beside : {A B : Type 0} → (A → B → Type 0) → List A → List B → Type 0
Beside P [] [] = Unit {0}
Beside P [] (y ∷ ys) = ⊥
Beside P (x ∷ xs) [] = ⊥
Beside P (x ∷ xs) (y ∷ ys) = P x y × Beside P xs ys
