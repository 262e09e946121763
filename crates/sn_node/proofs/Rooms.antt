-- The rooms of children, where one child changes.
use Rattle.std.proofs.Common.{◌≡◌, ℕ, zero, suc, ◌<◌, ◌≤◌, List, [], ◌∷◌, length, get_or, set, refl, sym, ap, subst, arith}
use Rattle.sn_node.specs.Kept.{room_of, room_at}
use Rattle.sn_node.specs.declared.children.Child.{Child}

pub room_read : (list : List Child) (c : ℕ) (child : Child) → c < length list → child ≡ get_or list c child → room_at list c ≡ room_of child
room_read [] c child within read = absurd (omega (arith, within))
room_read (x ∷ list) zero child within read = ap room_of (sym read)
room_read (x ∷ list) (suc c) child within read = room_read list c child (omega (arith, within)) read

pub room_set : (list : List Child) (c : ℕ) (child : Child) → c < length list → room_at (set list c child) c ≡ room_of child
room_set [] c child within = absurd (omega (arith, within))
room_set (x ∷ list) zero child within = refl
room_set (x ∷ list) (suc c) child within = room_set list c child (omega (arith, within))

pub room_other : (list : List Child) (c d : ℕ) (child : Child) → (d ≡ c → ⊥) → room_at (set list c child) d ≡ room_at list d
room_other [] c d child other = refl
room_other (x ∷ list) zero zero child other = absurd (other refl)
room_other (x ∷ list) zero (suc d) child other = refl
room_other (x ∷ list) (suc c) zero child other = refl
room_other (x ∷ list) (suc c) (suc d) child other = room_other list c d child (λ e. other (ap suc e))

-- no room shrinks where that of the changed child does not
pub rooms_grow : (list : List Child) (c d : ℕ) (was now : Child) → was ≡ get_or list c was → room_of was ≤ room_of now → room_at list d ≤ room_at (set list c now) d
rooms_grow [] c d was now read grows = omega arith
rooms_grow (x ∷ list) zero zero was now read grows = subst (λ y. room_of y ≤ room_of now) read grows
rooms_grow (x ∷ list) zero (suc d) was now read grows = omega arith
rooms_grow (x ∷ list) (suc c) zero was now read grows = omega arith
rooms_grow (x ∷ list) (suc c) (suc d) was now read grows = rooms_grow list c d was now read grows
