-- Networks in which one variant alone reaches each part from a variant, and one alone flows out.
use Rattle.std.proofs.Common.{◌≡◌, ℕ, zero, suc, Bool, List, [], ◌∷◌, refl, sym, ap, ◌∙◌, subst, arith}
use Rattle.std.specs.List.{Contains}
use Rattle.sn_record.specs.Fits.{Fits}
use Rattle.sn_record.specs.LabelSet.{Labels, contains, union, minus}
use Rattle.sn_types.specs.RecordType.{HasFit}
use Rattle.sn_typing.specs.Accepted.{AreFew, ComesTo, IsBounded, IsDeclared, IsReached}
use Rattle.sn_typing.specs.Flow.{Comes, Comes.{first, next}, Flows, Safe, Takes}
use Rattle.sn_typing.specs.Outline.{Outline, Component, Series, Choice, Star, Split}
use Rattle.sn_typing.specs.Reached.{Turn, Left, Right, Body, Reached, Reached.{here, left, right, inside, replica}}

-- at most this one is among them
abbrev pub Only : (Labels → Type 0) → Labels → Type 0
Only among x = (u : Labels) → among u → u ≡ x

-- so within the network, from v
abbrev pub Inside : Outline → Labels → Type 0
Inside (Component place takes named outputs) v = Unit {0}
Inside (Series a b) v = (x : (y : Labels) × Only (Flows a v) y × Inside a v) × ((y : Labels) × Only (Flows b x.0) y × Inside b x.0)
Inside (Choice place faces branches) v = ⊥
Inside (Star exit guarded body) v = Only (Comes exit guarded (Flows body) v) v × ((y : Labels) × Only (Flows body v) y × Inside body v)
Inside (Split place id body) v = (y : Labels) × Only (Flows body v) y × Inside body v

-- one variant alone flows out for v, and so at each part within
abbrev pub Narrow : Outline → Labels → Type 0
Narrow net v = (y : Labels) × Only (Flows net v) y × Inside net v

pub only_listed : (x y : Labels) → Contains (x ∷ []) y → y ≡ x
only_listed x y (zero, within, is) = sym is
only_listed x y (suc k, within, is) = absurd (omega (arith, within))

listed_one : (x y : Labels) → y ≡ x → Contains (x ∷ []) y
listed_one x y is = (0, omega arith, sym is)

abbrev pub narrow_component : (place : ℕ) (takes : List Labels) (named o v : Labels) → Narrow (Component place takes named (o ∷ [])) v
narrow_component place takes named o v = (union o (minus v named), λ u f. f.1.2 ∙ ap (λ o. union o (minus v named)) (only_listed o f.1.0 f.1.1), tt)

abbrev pub narrow_series : (a b : Outline) (v : Labels) (x : Narrow a v) (y : Narrow b x.0) → Narrow (Series a b) v
narrow_series a b v x y = (y.0, λ u f. y.1 u (subst (λ w. Flows b w u) (x.1 f.0 f.1) f.2), (x, y))

-- where the body answers what came to the star, nothing else comes to it
pub only_comes : (exit : Labels) (guarded : Bool) (body : Outline) (v : Labels) (x : Narrow body v) → x.0 ≡ v → Only (Comes exit guarded (Flows body) v) v
only_comes exit guarded body v x same w first = refl
only_comes exit guarded body v x same w (next u w' come stays flow) = x.1 w (subst (λ z. Flows body z w) (only_comes exit guarded body v x same u come) flow) ∙ same

abbrev pub narrow_star : (exit : Labels) (guarded : Bool) (body : Outline) (v : Labels) (x : Narrow body v) → x.0 ≡ v → Narrow (Star exit guarded body) v
narrow_star exit guarded body v x same =
    (union v exit, λ u f. f.3 ∙ ap (λ w. union w exit) (only_comes exit guarded body v x same f.0 f.1), (only_comes exit guarded body v x same, x))

abbrev pub narrow_split : (place id : ℕ) (body : Outline) (v : Labels) (x : Narrow body v) → Narrow (Split place id body) v
narrow_split place id body v x = (x.0, λ u f. x.1 u f.1, x)

-- the variant that may reach the part at the way
abbrev one_at : (net : Outline) (v : Labels) → Narrow net v → List Turn → Labels
one_at net v n [] = v
one_at (Series a b) v n (Left ∷ way) = one_at a v n.2.0 way
one_at (Series a b) v n (Right ∷ way) = one_at b n.2.0.0 n.2.1 way
one_at (Star exit guarded body) v n (Body ∷ way) = one_at body v n.2.1 way
one_at (Split place id body) v n (Body ∷ way) = one_at body v n.2 way
one_at net v n way = v

reached_one : (net : Outline) (v : Labels) (way : List Turn) (part : Outline) (u : Labels) (n : Narrow net v) → Reached net v way part u → (u ≡ one_at net v n way) × Narrow part u
reached_one net v way part u n (here net' v') = (refl, n)
reached_one (Series a b) v way part u n (left a' b' v' way' part' u' reached) = reached_one a v way' part u n.2.0 reached
reached_one (Series a b) v way part u n (right a' b' v' w way' part' u' flow reached) =
    reached_one b n.2.0.0 way' part u n.2.1 (subst (λ z. Reached b z way' part u) (n.2.0.1 w flow) reached)
reached_one (Choice place faces branches) v way part u n reached = absurd n.2
reached_one (Star exit guarded body) v way part u n (inside exit' guarded' body' v' w way' part' u' come stays reached) =
    reached_one body v way' part u n.2.1 (subst (λ z. Reached body z way' part u) (n.2.0 w come) reached)
reached_one (Split place id body) v way part u n (replica place' id' body' v' way' part' u' there reached) = reached_one body v way' part u n.2 reached

few_come : (part : Outline) (u : Labels) → Narrow part u → AreFew (ComesTo part u)
few_come (Component place takes named outputs) u n = record { all = []; few = omega arith; listed = λ w is. absurd is }
few_come (Series a b) u n = record { all = []; few = omega arith; listed = λ w is. absurd is }
few_come (Choice place faces branches) u n = record { all = []; few = omega arith; listed = λ w is. absurd is }
few_come (Star exit guarded body) u n = record { all = u ∷ []; few = omega arith; listed = λ w come. listed_one u w (n.2.0 w come) }
few_come (Split place id body) u n = record { all = []; few = omega arith; listed = λ w is. absurd is }

from_one : (net : Outline) (v : Labels) (way : List Turn) (part : Outline) (u : Labels) (n : Narrow net v) → IsReached net (v ∷ []) way part u → (u ≡ one_at net v n way) × Narrow part u
from_one net v way part u n is = reached_one net v way part u n (subst (λ z. Reached net z way part u) (only_listed v is.variant is.listed) is.reached)

-- such a network is bounded
pub narrow_bounded : (net : Outline) (v : Labels) → Narrow net v → IsBounded net (v ∷ [])
narrow_bounded net v n = record {
  parts = λ way part. record { all = one_at net v n way ∷ []; few = omega arith; listed = λ u is. listed_one (one_at net v n way) u (from_one net v way part u n is).0 };
  flows = λ way part u is. let known = (from_one net v way part u n is).1 in record { all = known.0 ∷ []; few = omega arith; listed = λ w flow. listed_one known.0 w (known.1 w flow) };
  stars = λ way part u is. few_come part u (from_one net v way part u n is).1;
}

-- and declared where a variant of the output fits what flows out
pub narrow_declared : (net : Outline) (v : Labels) (n : Narrow net v) (output : List Labels) → HasFit output n.0 → IsDeclared net (v ∷ []) output
narrow_declared net v n output has v' u listed flow =
    subst (HasFit output) (sym (n.1 u (subst (λ z. Flows net z u) (only_listed v v' listed) flow))) has

-- what is safe from the one variant
pub safe_series : (a b : Outline) (v : Labels) (x : Narrow a v) → Safe a v → Safe b x.0 → Safe (Series a b) v
safe_series a b v x front behind = (front, λ u flow. subst (Safe b) (sym (x.1 u flow)) behind)

pub safe_star : (exit : Labels) (guarded : Bool) (body : Outline) (v : Labels) (x : Narrow body v) → x.0 ≡ v → Safe body v → Safe (Star exit guarded body) v
safe_star exit guarded body v x same inner u come stays = subst (Safe body) (sym (only_comes exit guarded body v x same u come)) inner

pub safe_from : (net : Outline) (v : Labels) → Safe net v → (u : Labels) → Contains (v ∷ []) u → Safe net u
safe_from net v safe u listed = subst (Safe net) (sym (only_listed v u listed)) safe

pub one_fits : (takes v : Labels) → Fits takes v → HasFit (takes ∷ []) v
one_fits takes v fits = record { variant = takes; listed = listed_one takes takes refl; fits = fits }

pub takes_one : (takes v : Labels) → Fits takes v → Takes (takes ∷ []) v
takes_one takes v fits = record {
  has = one_fits takes v fits;
  alike = λ s t one other l binds. ap (λ u. contains u l) (only_listed takes s one ∙ sym (only_listed takes t other));
}
