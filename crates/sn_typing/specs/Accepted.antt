-- When a claim is accepted, and how it is refused.
use Rattle.std.specs.Prelude.{ℕ, ◌≤◌, List, length}
use Rattle.std.specs.List.{Contains}
use Rattle.sn_record.specs.LabelSet.{Labels}
use Rattle.sn_net.specs.declared.expr.BoxProgram.{BoxProgram}
use Rattle.sn_net.specs.declared.net.Claim.{Claim}
use Rattle.sn_typing.specs.Outline.{Outline, Component, Series, Choice, Star, Split, outline}
use Rattle.sn_types.specs.RecordType.{HasFit}
use Rattle.sn_typing.specs.Flow.{Flows, Safe, Comes}
use Rattle.sn_typing.specs.Reached.{Turn, Reached}

-- how many variants may reach a part, come out of one, or come to a star
abbrev pub most_variants : ℕ
most_variants = 1024

-- a list of at most that many variants has all that are among some
pub record AreFew (among : Labels → Type 0) : Type 0 where
  pub all : List Labels
  pub few : length all ≤ most_variants
  pub listed : (v : Labels) → among v → Contains all v

-- the variant comes to the star; to no other part does one come
abbrev pub ComesTo : Outline → Labels → Labels → Type 0
ComesTo (Component place takes named outputs) v u = ⊥
ComesTo (Series left right) v u = ⊥
ComesTo (Choice place faces branch) v u = ⊥
ComesTo (Star exit guarded body) v u = Comes exit guarded (Flows body) v u
ComesTo (Split place id body) v u = ⊥

-- from one of the variants of the input the part at the way is reached with u
pub record IsReached (net : Outline) (input : List Labels) (way : List Turn) (part : Outline) (u : Labels) : Type 0 where
  pub variant : Labels
  pub listed : Contains input variant
  pub reached : Reached net variant way part u

-- no part is reached with too many variants, no flow is too large, and to no star come too many
pub record IsBounded (net : Outline) (input : List Labels) : Type 0 where
  pub parts : (way : List Turn) (part : Outline) → AreFew (IsReached net input way part)
  pub flows : (way : List Turn) (part : Outline) (u : Labels) → IsReached net input way part u → AreFew (Flows part u)
  pub stars : (way : List Turn) (part : Outline) (u : Labels) → IsReached net input way part u → AreFew (ComesTo part u)

-- a variant of the output fits what comes out for some variant of the input
abbrev pub IsDeclared : Outline → List Labels → List Labels → Type 0
IsDeclared net input output = (v u : Labels) → Contains input v → Flows net v u → HasFit output u

-- the claim is accepted
pub record IsAccepted (boxes : List BoxProgram) (claim : Claim) : Type 0 where
  pub bounded : IsBounded (outline boxes claim.net) claim.input
  pub safe : (v : Labels) → Contains claim.input v → Safe (outline boxes claim.net) v
  pub declared : IsDeclared (outline boxes claim.net) claim.input claim.output
