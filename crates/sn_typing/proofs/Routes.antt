-- A network is safe for a variant exactly where each part that is reached has a route.
use Rattle.std.proofs.Common.{Bool, List, [], ◌∷◌}
use Rattle.std.specs.List.{Contains}
use Rattle.sn_record.specs.LabelSet.{Labels, union}
use Rattle.sn_typing.specs.Outline.{Outline, Component, Series, Choice, Star, Split}
use Rattle.sn_typing.specs.Flow.{Comes, Comes.{first, next}, Flows, Safe, IsRouted, IsClosedSet}
use Rattle.sn_typing.specs.Reached.{Turn, Left, Right, Branch, Body, Reached, Reached.{here, left, right, branch, inside, replica}}

-- the network itself has a route
routed_itself : (net : Outline) (v : Labels) → Safe net v → IsRouted net v
routed_itself (Component place takes named outputs) v safe = safe
routed_itself (Series a b) v safe = tt
routed_itself (Choice place faces branches) v safe = safe.0
routed_itself (Star exit guarded body) v safe = tt
routed_itself (Split place id body) v safe = safe.0

pub reached_routed : (net : Outline) (v : Labels) (way : List Turn) (part : Outline) (u : Labels) → Safe net v → Reached net v way part u → IsRouted part u
reached_routed net v way part u safe (here net' v') = routed_itself net v safe
reached_routed net v way part u safe (left a b v' way' part' u' reached) = reached_routed a v way' part u safe.0 reached
reached_routed net v way part u safe (right a b v' w way' part' u' flow reached) = reached_routed b w way' part u (safe.1 w flow) reached
reached_routed net v way part u safe (branch place faces branches v' i w way' part' u' has taken reached) =
    reached_routed (branches i) (union v w) way' part u (safe.1 i w taken) reached
reached_routed net v way part u safe (inside exit guarded body v' w way' part' u' come stays reached) = reached_routed body w way' part u (safe w come stays) reached
reached_routed net v way part u safe (replica place id body v' way' part' u' there reached) = reached_routed body v way' part u safe.1 reached

pub routed_safe : (net : Outline) (v : Labels) → ((way : List Turn) (part : Outline) (u : Labels) → Reached net v way part u → IsRouted part u) → Safe net v
routed_safe (Component place takes named outputs) v routed = routed [] (Component place takes named outputs) v (here (Component place takes named outputs) v)
routed_safe (Series a b) v routed = (
  routed_safe a v (λ way part u reached. routed (Left ∷ way) part u (left a b v way part u reached)),
  λ w flow. routed_safe b w (λ way part u reached. routed (Right ∷ way) part u (right a b v w way part u flow reached)),
)
routed_safe (Choice place faces branches) v routed =
    let has = routed [] (Choice place faces branches) v (here (Choice place faces branches) v) in (
      has,
      λ i w taken. routed_safe (branches i) (union v w)
          (λ way part u reached. routed (Branch i ∷ way) part u (branch place faces branches v i w way part u has taken reached)),
    )
routed_safe (Star exit guarded body) v routed = λ w come stays.
    routed_safe body w (λ way part u reached. routed (Body ∷ way) part u (inside exit guarded body v w way part u come stays reached))
routed_safe (Split place id body) v routed =
    let there = routed [] (Split place id body) v (here (Split place id body) v) in (
      there,
      routed_safe body v (λ way part u reached. routed (Body ∷ way) part u (replica place id body v way part u there reached)),
    )

-- a closed set has all that comes
comes_within : (exit : Labels) (guarded : Bool) (body : Outline) (v : Labels) (members : List Labels) → IsClosedSet exit guarded body v members
    → (u : Labels) → Comes exit guarded (Flows body) v u → Contains members u
comes_within exit guarded body v members set u first = set.start
comes_within exit guarded body v members set u (next t w come stays flow) = set.closed t u (comes_within exit guarded body v members set t come) stays flow

pub closed_set_safe : (exit : Labels) (guarded : Bool) (body : Outline) (v : Labels) (members : List Labels) → IsClosedSet exit guarded body v members
    → Safe (Star exit guarded body) v
closed_set_safe exit guarded body v members set = λ u come stays. set.safe u (comes_within exit guarded body v members set u come) stays
