-- Refusals by their reasons, and which of several is the first.
use Rattle.std.specs.Prelude.{◌≡◌, ℕ, false}
use Rattle.sn_label_scope.specs.Refusals.{comes_before}
use Rattle.sn_label_scope.specs.declared.refusal.Reason.TheVariants.{Unknown, Twice, Arity, GuardTag}
use Rattle.sn_label_scope.specs.declared.refusal.Refusal.{Refusal}

abbrev pub unknown : ℕ → Refusal
unknown at = record { reason = Unknown; at = at }

abbrev pub twice : ℕ → Refusal
twice at = record { reason = Twice; at = at }

abbrev pub arity : ℕ → Refusal
arity at = record { reason = Arity; at = at }

abbrev pub guard_tag : ℕ → Refusal
guard_tag at = record { reason = GuardTag; at = at }

-- one of the refusals, where none of them comes before it: by place, and at one place by the order of the reasons
pub record IsFirst (refused : Refusal → Type 0) (refusal : Refusal) : Type 0 where
  pub stands : refused refusal
  pub first : (other : Refusal) → refused other → comes_before other refusal ≡ false
