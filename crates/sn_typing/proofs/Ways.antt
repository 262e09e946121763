-- Ways along the edges of a graph that go through some of its places alone, and what is reached by them.
use Rattle.std.proofs.Common.{◌≡◌, ◌⊎◌, inl, inr, List, [], ◌∷◌, sym, subst}
use Rattle.sn_typing.proofs.Listed.{Among, Listed, dec_both, dec_either, listed_among, listed_both, listed_either, listed_one}

-- a way from u to w that goes through places of a list alone: it passes by the first of them, or goes to it and on from it
abbrev pub Way : {A : Type 0} → (A → A → Type 0) → List A → A → A → Type 0
Way edge [] u w = edge u w
Way edge (x ∷ xs) u w = Way edge xs u w ⊎ (Way edge xs u x × Way edge xs x w)

dec_way : {A : Type 0} (edge : A → A → Type 0) → ((u w : A) → Dec (edge u w)) → (xs : List A) (u w : A) → Dec (Way edge xs u w)
dec_way edge dec [] u w = dec u w
dec_way edge dec (x ∷ xs) u w = dec_either (dec_way edge dec xs u w) (dec_both (dec_way edge dec xs u x) (dec_way edge dec xs x w))

edge_way : {A : Type 0} (edge : A → A → Type 0) (xs : List A) (u w : A) → edge u w → Way edge xs u w
edge_way edge [] u w step = step
edge_way edge (x ∷ xs) u w step = inl (edge_way edge xs u w step)

-- two ways that meet at the first place
meet_first : {A : Type 0} (edge : A → A → Type 0) (x : A) (xs : List A) (u w : A) → Way edge (x ∷ xs) u x → Way edge (x ∷ xs) x w → Way edge (x ∷ xs) u w
meet_first edge x xs u w (inl there) (inl on) = inr (there, on)
meet_first edge x xs u w (inl there) (inr (around, on)) = inr (there, on)
meet_first edge x xs u w (inr (there, around)) (inl on) = inr (there, on)
meet_first edge x xs u w (inr (there, around)) (inr (again, on)) = inr (there, on)

-- two ways that meet at one of the places are one
way_through : {A : Type 0} (edge : A → A → Type 0) (xs : List A) (k u w : A) → Among xs k → Way edge xs u k → Way edge xs k w → Way edge xs u w
way_through edge [] k u w among there on = absurd among
way_through edge (x ∷ xs) k u w (inl same) there on =
    meet_first edge x xs u w (subst (λ t. Way edge (x ∷ xs) u t) (sym same) there) (subst (λ t. Way edge (x ∷ xs) t w) (sym same) on)
way_through edge (x ∷ xs) k u w (inr among) (inl there) (inl on) = inl (way_through edge xs k u w among there on)
way_through edge (x ∷ xs) k u w (inr among) (inl there) (inr (back, on)) = inr (way_through edge xs k u x among there back, on)
way_through edge (x ∷ xs) k u w (inr among) (inr (there, to)) (inl on) = inr (there, way_through edge xs k x w among to on)
way_through edge (x ∷ xs) k u w (inr among) (inr (there, to)) (inr (back, on)) = inr (there, on)

-- what a way's edges lead along, the way does
pub way_along : {A : Type 0} (edge along : A → A → Type 0) → ((u w : A) → edge u w → along u w) → ((u t w : A) → along u t → along t w → along u w)
    → (xs : List A) (u w : A) → Way edge xs u w → along u w
way_along edge along step chain [] u w way = step u w way
way_along edge along step chain (x ∷ xs) u w (inl way) = way_along edge along step chain xs u w way
way_along edge along step chain (x ∷ xs) u w (inr (there, on)) =
    chain u x w (way_along edge along step chain xs u x there) (way_along edge along step chain xs x w on)

-- what is reached from v through the places of a list: v itself, and each of these places to which there is a way
abbrev pub IsReached : {A : Type 0} → (A → A → Type 0) → List A → A → A → Type 0
IsReached edge places v w = (v ≡ w) ⊎ (Among places w × Way edge places v w)

pub listed_reached : {A : Type 0} (edge : A → A → Type 0) → ((u w : A) → Dec (edge u w)) → (places : List A) (v : A) → Listed (IsReached edge places v)
listed_reached edge dec places v = listed_either (listed_one v) (listed_both (listed_among places) (dec_way edge dec places v))

-- one edge more, to one of the places
pub reached_next : {A : Type 0} (edge : A → A → Type 0) (places : List A) (v u w : A)
    → IsReached edge places v u → edge u w → Among places w → IsReached edge places v w
reached_next edge places v u w (inl same) step among = inr (among, edge_way edge places v w (subst (λ t. edge t w) (sym same) step))
reached_next edge places v u w (inr (at, way)) step among = inr (among, way_through edge places u v w at way (edge_way edge places u w step))
