-- Records without a route, in a stream that was put together.
use Rattle.std.proofs.Common.{◌≡◌, ℕ, Bool, true, false, true≢false, List, [], ◌∷◌, ◌++◌, map, ap, ◌∙◌, ◌||◌}
use Rattle.sn_record.specs.declared.item.Item.{Item}
use Rattle.sn_net.specs.Item.{ModelItem, Stuck, holds_stuck, is_stuck, modelled}

or_free : (b c : Bool) → (b || c) ≡ false → c ≡ false
or_free true c is = cc
or_free false c is = is

-- what is behind has none where the whole has none
pub free_behind : (xs ys : List ModelItem) → holds_stuck (xs ++ ys) ≡ false → holds_stuck ys ≡ false
free_behind [] ys free = free
free_behind (x ∷ xs) ys free = free_behind xs ys (or_free (is_stuck x) (holds_stuck (xs ++ ys)) free)

holds_it : (xs ys : List ModelItem) (place : ℕ) → holds_stuck (xs ++ Stuck place ∷ ys) ≡ false → ⊥
holds_it xs ys place free = true≢false (free_behind xs (Stuck place ∷ ys) free)

-- so what comes next is no such record
pub never_next : (given : List Item) (ys came : List ModelItem) (place : ℕ) → map modelled given ++ Stuck place ∷ ys ≡ came → holds_stuck came ≡ false → ⊥
never_next given ys came place is free = holds_it (map modelled given) ys place (ap holds_stuck is ∙ free)
