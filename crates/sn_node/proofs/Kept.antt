-- A change of a child leaves the number of children.
use Rattle.std.proofs.Common.{◌≡◌, ℕ, zero, suc, List, [], ◌∷◌, map, length, refl, sym, ap, ◌∙◌}
use Rattle.std.proofs.lemmas.List.{length-map}
use Rattle.sn_view.specs.View.{changed_at}

length-changed : {X : Type 0} (f : X → X) (i : ℕ) (xs : List X) → length (changed_at i f xs) ≡ length xs
length-changed f i [] = refl
length-changed f zero (x ∷ xs) = refl
length-changed f (suc i) (x ∷ xs) = ap suc (length-changed f i xs)

pub as_many : {X Y : Type 0} (v : X → Y) (f : Y → Y) (i : ℕ) (old new : List X) → map v new ≡ changed_at i f (map v old) → length new ≡ length old
as_many v f i old new is = sym (length-map new v) ∙ ap (λ ys. length ys) is ∙ length-changed f i (map v old) ∙ length-map old v
