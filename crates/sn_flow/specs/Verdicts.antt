-- What flows out, when a claim is accepted, and how it is refused.
use Rattle.std.specs.Prelude.{◌≡◌, ◌↔◌, ◌⊎◌, ℕ, List, [], ◌∷◌, Result, Ok, Err}
use Rattle.std.specs.List.{Contains}
use Rattle.std.specs.List.Sorted.{IsStrictlySortedBy}
use Rattle.std.specs.declared.cmp.Ordering.TheVariants.{Greater}
use Rattle.sn_record.specs.LabelSet.{Labels}
use Rattle.sn_net.specs.Face.{variant_cmp}
use Rattle.sn_net.specs.declared.expr.BoxProgram.{BoxProgram}
use Rattle.sn_net.specs.declared.net.Claim.{Claim}
use Rattle.sn_typing.specs.Outline.{Outline, outline}
use Rattle.sn_types.specs.RecordType.{HasFit}
use Rattle.sn_typing.specs.Flow.{Flows, IsRouted, Safe}
use Rattle.sn_typing.specs.Reached.{Turn}
use Rattle.sn_typing.specs.Accepted.{IsAccepted, IsBounded, IsReached}
use Rattle.sn_flow.specs.declared.fault.FlowFault.{FlowFault}
use Rattle.sn_flow.specs.declared.fault.FlowFault.TheVariants.{NoRoute, BadOutput, TooManyVariants, Memory}
use Rattle.sn_flow.specs.Spots.{place_of, spot, spot_cmp}

-- a part with this place is reached with u, and has no route for it
pub record IsUnrouted (net : Outline) (input : List Labels) (place : ℕ) (u : Labels) : Type 0 where
  pub way : List Turn
  pub part : Outline
  pub reached : IsReached net input way part u
  pub here : place_of part ≡ place
  pub unrouted : IsRouted part u → ⊥

-- u comes out for some variant of the input, and no variant of the output fits it
pub record IsUndeclared (net : Outline) (input output : List Labels) (u : Labels) : Type 0 where
  pub from : Labels
  pub listed : Contains input from
  pub flow : Flows net from u
  pub undeclared : HasFit output u → ⊥

-- the place and the variant are the first of some: no other has a lesser place, or the same and a lesser variant
pub record IsFirst (among : ℕ → Labels → Type 0) (place : ℕ) (u : Labels) : Type 0 where
  pub is : among place u
  pub first : (q : ℕ) (w : Labels) → among q w → spot_cmp (spot place u) (spot q w) ≡ Greater → ⊥

-- the network is bounded, and safe for each variant of the input
pub record IsSafe (net : Outline) (input : List Labels) : Type 0 where
  pub bounded : IsBounded net input
  pub safe : (v : Labels) → Contains input v → Safe net v

-- what a check of a claim answers
abbrev pub Checked : List BoxProgram → Claim → Result (Unit {0}) FlowFault → Type 0
Checked boxes claim (Ok done) = IsAccepted boxes claim
Checked boxes claim (Err (NoRoute at u)) = IsBounded (outline boxes claim.net) claim.input × IsFirst (IsUnrouted (outline boxes claim.net) claim.input) at u
Checked boxes claim (Err (BadOutput at u)) =
    IsSafe (outline boxes claim.net) claim.input × IsFirst (λ q w. (q ≡ claim.place) × IsUndeclared (outline boxes claim.net) claim.input claim.output w) at u
Checked boxes claim (Err (TooManyVariants at)) = (at ≡ claim.place) × (IsBounded (outline boxes claim.net) claim.input → ⊥)
Checked boxes claim (Err Memory) = Unit {0}

-- Ok exactly where the claim is accepted, but for want of memory
abbrev pub Decided : List BoxProgram → Claim → Result (Unit {0}) FlowFault → Type 0
Decided boxes claim (Ok done) = IsAccepted boxes claim
Decided boxes claim (Err (NoRoute at u)) = IsAccepted boxes claim → ⊥
Decided boxes claim (Err (BadOutput at u)) = IsAccepted boxes claim → ⊥
Decided boxes claim (Err (TooManyVariants at)) = IsAccepted boxes claim → ⊥
Decided boxes claim (Err Memory) = Unit {0}

-- one answer, or one of both for want of memory
abbrev pub AreOne : {A : Type 0} → Result A FlowFault → Result A FlowFault → Type 0
AreOne r s = (r ≡ s) ⊎ ((r ≡ Err Memory) ⊎ (s ≡ Err Memory))

-- the variants that come out for v, in ascending order
pub record IsFlowOf (net : Outline) (v : Labels) (flow : List Labels) : Type 0 where
  pub ascending : IsStrictlySortedBy variant_cmp flow
  pub same : (u : Labels) → Contains flow u ↔ Flows net v u

-- what is answered of the flow for v
abbrev pub FlowFound : Outline → Labels → Result (List Labels) FlowFault → Type 0
FlowFound net v (Ok flow) = IsSafe net (v ∷ []) × IsFlowOf net v flow
FlowFound net v (Err (NoRoute at u)) = IsBounded net (v ∷ []) × IsFirst (IsUnrouted net (v ∷ [])) at u
FlowFound net v (Err (BadOutput at u)) = ⊥
FlowFound net v (Err (TooManyVariants at)) = (at ≡ 0) × (IsBounded net (v ∷ []) → ⊥)
FlowFound net v (Err Memory) = Unit {0}
