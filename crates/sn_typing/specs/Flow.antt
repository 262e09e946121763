-- Which variants a network answers to a variant, and for which each record has a route.
use Rattle.std.specs.Prelude.{◌≡◌, ◌⊎◌, ℕ, ◌<◌, Bool, false, IsTrue, List, slice_get, Some}
use Rattle.std.specs.List.{Contains}
use Rattle.std.specs.FinMap as map
use Rattle.sn_record.specs.LabelSet.{Labels, contains, union, minus}
use Rattle.sn_record.specs.Fits.{BindAlike, Fits}
use Rattle.sn_types.specs.RecordType.{HasFit}
use Rattle.sn_net.specs.Filter.{tag}
use Rattle.sn_typing.specs.Outline.{Outline, Component, Series, Choice, Star, Split}

-- the face of the branch i has the variant w
pub record IsFaceVariant (faces : List (List Labels)) (i : ℕ) (w : Labels) : Type 0 where
  pub face : List Labels
  pub here : slice_get faces i ≡ Some face
  pub listed : Contains face w

-- Within s, another face variant is taken in place of w of branch i: a larger one, or one as large of a branch further left.
pub record IsBeaten (faces : List (List Labels)) (i : ℕ) (w s : Labels) : Type 0 where
  pub branch : ℕ
  pub variant : Labels
  pub other : IsFaceVariant faces branch variant
  pub fits : Fits variant s
  pub before : (map.len w < map.len variant) ⊎ ((map.len variant ≡ map.len w) × (branch < i))

-- Records of v may be sent to branch i for its face variant w: it has the binding tags of v, and isn't beaten where both are there.
pub record MayTake (faces : List (List Labels)) (i : ℕ) (w v : Labels) : Type 0 where
  pub own : IsFaceVariant faces i w
  pub alike : BindAlike w v
  pub best : IsBeaten faces i w (union v w) → ⊥

-- some face has a variant that fits v
pub record HasFace (faces : List (List Labels)) (v : Labels) : Type 0 where
  pub branch : ℕ
  pub variant : Labels
  pub own : IsFaceVariant faces branch variant
  pub fits : Fits variant v

-- a component has a variant that fits v, and all that it takes have the same binding tags
pub record Takes (takes : List Labels) (v : Labels) : Type 0 where
  pub has : HasFit takes v
  pub alike : (s t : Labels) → Contains takes s → Contains takes t → BindAlike s t

-- records of the variant surely leave the star: it has no guard, and they match the exit
pub record SurelyLeaves (exit : Labels) (guarded : Bool) (v : Labels) : Type 0 where
  pub unguarded : guarded ≡ false
  pub fits : Fits exit v

-- The variants that reach the body of a star, or leave it, from a variant v: the least set that has v and, for each of its members
-- that doesn't surely leave, what the body answers to it.
pub data Comes (exit : Labels) (guarded : Bool) (body : Labels → Labels → Type 0) (v : Labels) : Labels → Type 0 where
  first : Comes exit guarded body v v
  next : (u w : Labels) → Comes exit guarded body v u → (SurelyLeaves exit guarded u → ⊥) → body u w → Comes exit guarded body v w

-- the part itself, and no other, finds no route for a record of v
abbrev pub IsRouted : Outline → Labels → Type 0
IsRouted (Component place takes named outputs) v = Takes takes v
IsRouted (Series left right) v = Unit {0}
IsRouted (Choice place faces branch) v = HasFace faces v
IsRouted (Star exit guarded body) v = Unit {0}
IsRouted (Split place id body) v = IsTrue (contains v (tag id))

-- The flow: u is one of the variants that come out for v.
abbrev pub Flows : Outline → Labels → Labels → Type 0
Flows (Component place takes named outputs) v u = Takes takes v × ((o : Labels) × Contains outputs o × (u ≡ union o (minus v named)))
Flows (Series left right) v u = (w : Labels) × Flows left v w × Flows right w u
Flows (Choice place faces branch) v u = HasFace faces v × ((i : ℕ) × (w : Labels) × MayTake faces i w v × Flows (branch i) (union v w) u)
Flows (Star exit guarded body) v u = (w : Labels) × Comes exit guarded (Flows body) v w × BindAlike w exit × (u ≡ union w exit)
Flows (Split place id body) v u = IsTrue (contains v (tag id)) × Flows body v u

-- Each record of v, and each that comes of it, has a route.
abbrev pub Safe : Outline → Labels → Type 0
Safe (Component place takes named outputs) v = Takes takes v
Safe (Series left right) v = Safe left v × ((u : Labels) → Flows left v u → Safe right u)
Safe (Choice place faces branch) v = HasFace faces v × ((i : ℕ) (w : Labels) → MayTake faces i w v → Safe (branch i) (union v w))
Safe (Star exit guarded body) v = (u : Labels) → Comes exit guarded (Flows body) v u → (SurelyLeaves exit guarded u → ⊥) → Safe body u
Safe (Split place id body) v = IsTrue (contains v (tag id)) × Safe body v

-- one of some variants fits u
pub record Below (among : Labels → Type 0) (u : Labels) : Type 0 where
  pub variant : Labels
  pub listed : among variant
  pub fits : Fits variant u

-- As it is told with finite sets: a list has v and, for each of its members that doesn't surely leave, all that the body answers
-- to it; and the body is safe for each of these.
pub record IsClosedSet (exit : Labels) (guarded : Bool) (body : Outline) (v : Labels) (members : List Labels) : Type 0 where
  pub start : Contains members v
  pub closed : (u w : Labels) → Contains members u → (SurelyLeaves exit guarded u → ⊥) → Flows body u w → Contains members w
  pub safe : (u : Labels) → Contains members u → (SurelyLeaves exit guarded u → ⊥) → Safe body u
