-- Flows, safe networks and accepted claims by subsets alone: what they are where no label is a binding tag.
use Rattle.std.specs.Prelude.{◌≡◌, ◌⊎◌, ℕ, ◌<◌, Bool, false, IsTrue, List, [], ◌∷◌}
use Rattle.std.specs.List.{Contains}
use Rattle.std.specs.FinMap as map
use Rattle.sn_record.specs.LabelSet.{Labels, contains, IsSubset, union, minus}
use Rattle.sn_types.specs.Subsets.{HasSubset, IsUnbound}
use Rattle.sn_net.specs.declared.expr.BoxProgram.{BoxProgram}
use Rattle.sn_net.specs.declared.net.Claim.{Claim}
use Rattle.sn_net.specs.Filter.{tag}
use Rattle.sn_typing.specs.Outline.{Outline, Component, Series, Choice, Star, Split, outline}
use Rattle.sn_typing.specs.Flow.{IsFaceVariant}
use Rattle.sn_typing.specs.Reached.{Turn, Left, Right, Branch, Body}
use Rattle.sn_typing.specs.Accepted.{AreFew}

-- no label that the network names is a binding tag
abbrev pub NamesNone : Outline → Type 0
NamesNone (Component place takes named outputs) = ((s : Labels) → Contains takes s → IsUnbound s) × ((o : Labels) → Contains outputs o → IsUnbound o)
NamesNone (Series left right) = NamesNone left × NamesNone right
NamesNone (Choice place faces branch) = ((i : ℕ) (w : Labels) → IsFaceVariant faces i w → IsUnbound w) × ((i : ℕ) → NamesNone (branch i))
NamesNone (Star exit guarded body) = IsUnbound exit × NamesNone body
NamesNone (Split place id body) = NamesNone body

-- Within s, another face variant is taken in place of w of branch i: a larger one, or one as large of a branch further left.
pub record IsBeaten (faces : List (List Labels)) (i : ℕ) (w s : Labels) : Type 0 where
  pub branch : ℕ
  pub variant : Labels
  pub other : IsFaceVariant faces branch variant
  pub within : IsSubset variant s
  pub before : (map.len w < map.len variant) ⊎ ((map.len variant ≡ map.len w) × (branch < i))

-- a face variant of branch i that isn't beaten within s
pub record IsUnbeaten (faces : List (List Labels)) (i : ℕ) (w s : Labels) : Type 0 where
  pub own : IsFaceVariant faces i w
  pub best : IsBeaten faces i w s → ⊥

-- some face has a subset of v
pub record HasFace (faces : List (List Labels)) (v : Labels) : Type 0 where
  pub branch : ℕ
  pub variant : Labels
  pub own : IsFaceVariant faces branch variant
  pub within : IsSubset variant v

-- records of the variant surely leave the star: it has no guard, and they have the labels of the exit
pub record SurelyLeaves (exit : Labels) (guarded : Bool) (v : Labels) : Type 0 where
  pub unguarded : guarded ≡ false
  pub within : IsSubset exit v

-- the variants that reach the body of a star, or leave it, from a variant v
pub data Comes (exit : Labels) (guarded : Bool) (body : Labels → Labels → Type 0) (v : Labels) : Labels → Type 0 where
  first : Comes exit guarded body v v
  next : (u w : Labels) → Comes exit guarded body v u → (SurelyLeaves exit guarded u → ⊥) → body u w → Comes exit guarded body v w

abbrev pub Flows : Outline → Labels → Labels → Type 0
Flows (Component place takes named outputs) v u = HasSubset takes v × ((o : Labels) × Contains outputs o × (u ≡ union o (minus v named)))
Flows (Series left right) v u = (w : Labels) × Flows left v w × Flows right w u
Flows (Choice place faces branch) v u = HasFace faces v × ((i : ℕ) × (w : Labels) × IsUnbeaten faces i w (union v w) × Flows (branch i) (union v w) u)
Flows (Star exit guarded body) v u = (w : Labels) × Comes exit guarded (Flows body) v w × (u ≡ union w exit)
Flows (Split place id body) v u = IsTrue (contains v (tag id)) × Flows body v u

abbrev pub Safe : Outline → Labels → Type 0
Safe (Component place takes named outputs) v = HasSubset takes v
Safe (Series left right) v = Safe left v × ((u : Labels) → Flows left v u → Safe right u)
Safe (Choice place faces branch) v = HasFace faces v × ((i : ℕ) (w : Labels) → IsUnbeaten faces i w (union v w) → Safe (branch i) (union v w))
Safe (Star exit guarded body) v = (u : Labels) → Comes exit guarded (Flows body) v u → (SurelyLeaves exit guarded u → ⊥) → Safe body u
Safe (Split place id body) v = IsTrue (contains v (tag id)) × Safe body v

-- from a network and a variant, the part at the way is reached with the variant u
pub data Reached : Outline → Labels → List Turn → Outline → Labels → Type 0 where
  here : (net : Outline) (v : Labels) → Reached net v [] net v
  left : (a b : Outline) (v : Labels) (way : List Turn) (part : Outline) (u : Labels) → Reached a v way part u → Reached (Series a b) v (Left ∷ way) part u
  right : (a b : Outline) (v w : Labels) (way : List Turn) (part : Outline) (u : Labels) → Flows a v w → Reached b w way part u → Reached (Series a b) v (Right ∷ way) part u
  branch : (place : ℕ) (faces : List (List Labels)) (branches : ℕ → Outline) (v : Labels) (i : ℕ) (w : Labels) (way : List Turn) (part : Outline) (u : Labels)
      → HasFace faces v → IsUnbeaten faces i w (union v w) → Reached (branches i) (union v w) way part u → Reached (Choice place faces branches) v (Branch i ∷ way) part u
  inside : (exit : Labels) (guarded : _) (body : Outline) (v w : Labels) (way : List Turn) (part : Outline) (u : Labels)
      → Comes exit guarded (Flows body) v w → (SurelyLeaves exit guarded w → ⊥) → Reached body w way part u → Reached (Star exit guarded body) v (Body ∷ way) part u
  replica : (place id : ℕ) (body : Outline) (v : Labels) (way : List Turn) (part : Outline) (u : Labels)
      → IsTrue (contains v (tag id)) → Reached body v way part u → Reached (Split place id body) v (Body ∷ way) part u

-- the variant comes to the star; to no other part does one come
abbrev pub ComesTo : Outline → Labels → Labels → Type 0
ComesTo (Component place takes named outputs) v u = ⊥
ComesTo (Series a b) v u = ⊥
ComesTo (Choice place faces branches) v u = ⊥
ComesTo (Star exit guarded body) v u = Comes exit guarded (Flows body) v u
ComesTo (Split place id body) v u = ⊥

pub record IsReached (net : Outline) (input : List Labels) (way : List Turn) (part : Outline) (u : Labels) : Type 0 where
  pub variant : Labels
  pub listed : Contains input variant
  pub reached : Reached net variant way part u

pub record IsBounded (net : Outline) (input : List Labels) : Type 0 where
  pub parts : (way : List Turn) (part : Outline) → AreFew (IsReached net input way part)
  pub flows : (way : List Turn) (part : Outline) (u : Labels) → IsReached net input way part u → AreFew (Flows part u)
  pub stars : (way : List Turn) (part : Outline) (u : Labels) → IsReached net input way part u → AreFew (ComesTo part u)

-- the claim is accepted
pub record IsAccepted (boxes : List BoxProgram) (claim : Claim) : Type 0 where
  pub bounded : IsBounded (outline boxes claim.net) claim.input
  pub safe : (v : Labels) → Contains claim.input v → Safe (outline boxes claim.net) v
  pub declared : (v u : Labels) → Contains claim.input v → Flows (outline boxes claim.net) v u → HasSubset claim.output u
