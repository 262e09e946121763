-- Networks that are typed where others are.
use Rattle.sn_record.specs.LabelSet.{Labels}
use Rattle.sn_typing.specs.Outline.{Outline}
use Rattle.sn_typing.specs.Flow.{Flows, Safe}

-- no more flows through the first than through the second, and it is safe for each variant for which the second is
pub record Refines (first second : Outline) : Type 0 where
  pub flows : (v u : Labels) → Flows first v u → Flows second v u
  pub safe : (v : Labels) → Safe second v → Safe first v

-- so it is for this variant
pub record FlowsWithin (first second : Outline) (v : Labels) : Type 0 where
  pub flows : (u : Labels) → Flows first v u → Flows second v u
  pub safe : Safe first v

-- where the second is safe for a variant, so is the first, and no more of it flows through the first
abbrev pub RefinesSafe : Outline → Outline → Type 0
RefinesSafe first second = (v : Labels) → Safe second v → FlowsWithin first second v
