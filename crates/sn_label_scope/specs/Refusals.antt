-- Which of the refusals of a source comes: the one at the least place, and at one place the first by reason.
use Rattle.std.specs.Prelude.{ℕ, Bool, true, false, ◌==◌, ◌&&◌, ◌||◌, nat_lt, if◌then◌else◌, Option, Some, None}
use Rattle.sn_label_scope.specs.declared.refusal.Reason.{Reason}
use Rattle.sn_label_scope.specs.declared.refusal.Reason.TheVariants.{Unknown, Twice, Arity, GuardTag}
use Rattle.sn_label_scope.specs.declared.refusal.Refusal.{Refusal}

-- the order of reasons at one place
abbrev pub rank : Reason → ℕ
rank Unknown = 1
rank Twice = 2
rank Arity = 3
rank GuardTag = 5

abbrev pub comes_before : Refusal → Refusal → Bool
comes_before one other = nat_lt one.at other.at || ((one.at == other.at) && nat_lt (rank one.reason) (rank other.reason))

-- the refusal that comes, of the one that came so far and another
abbrev pub noted : Option Refusal → Refusal → Option Refusal
noted None refusal = Some refusal
noted (Some least) refusal = if comes_before refusal least then Some refusal else Some least

-- what is required holds, or is refused for a reason at a place
abbrev pub required : Bool → Reason → ℕ → Option Refusal → Option Refusal
required true reason at least = least
required false reason at least = noted least (record { reason = reason; at = at })

-- what a part of a source adds to the refusals so far
abbrev pub Check : Type 0
Check = Option Refusal → Option Refusal
