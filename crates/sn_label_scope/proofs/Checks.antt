-- Checks only add refusals: where none is left, there was none before, and what was required holds.
use Rattle.std.proofs.Common.{◌≡◌, ℕ, Bool, true, false, not, if◌then◌else◌, IsTrue, List, [], ◌∷◌, Option, Some, None, All, fold, refl}
use Rattle.std.specs.FinMap as finite
use Rattle.std.proofs.lemmas.List.Elements.{All-nil, All-cons}
use Rattle.sn_ast.specs.declared.label.LabelAt.{LabelAt}
use Rattle.sn_ast.specs.declared.label.Variant.{Variant}
use Rattle.sn_record.specs.LabelSet.{Labels, contains}
use Rattle.sn_label_scope.specs.Labels.{label_at, no_repeats, variant_required}
use Rattle.sn_label_scope.specs.Refusals.{comes_before, noted, required}
use Rattle.sn_label_scope.specs.Refusals.{Check}
use Rattle.sn_label_scope.specs.declared.refusal.Reason.{Reason}
use Rattle.sn_label_scope.specs.declared.refusal.Reason.TheVariants.{Twice}
use Rattle.sn_label_scope.specs.declared.refusal.Refusal.{Refusal}

-- where the check leaves no refusal, there was none before, and the fact holds
abbrev pub Tells : Check → Type 0 → Type 0
Tells check Fact = (least : Option Refusal) → check least ≡ None → (least ≡ None) × Fact

-- what was noted is a refusal
noted_one : (least : Option Refusal) (refusal : Refusal) → noted least refusal ≡ None → ⊥
noted_one None refusal none = cc
noted_one (Some other) refusal none = (elim (comes_before refusal other) as (λ b. (if b then Some refusal else Some other) ≡ None → ⊥) [ true ↦ λ h. cc | false ↦ λ h. cc ]) none

-- what is required holds
pub required_tells : (ok : Bool) (reason : Reason) (at : ℕ) → Tells (required ok reason at) (IsTrue ok)
required_tells true reason at least none = (none, refl)
required_tells false reason at least none = absurd (noted_one least (record { reason = reason; at = at }) none)

-- a check tells what follows from what it tells
pub tells_weaker : (check : Check) (P Q : Type 0) → Tells check P → (P → Q) → Tells check Q
tells_weaker check P Q told follows least none = let known = told least none in (known.0, follows known.1)

-- two checks tell both facts
pub tells_both : (first second : Check) (P Q : Type 0) → Tells first P → Tells second Q → Tells (λ least. second (first least)) (P × Q)
tells_both first second P Q one other least none = let after = other (first least) none in let before = one least after.0 in (before.0, (before.1, after.1))

-- a check of each element tells of each
pub tells_each : {A : Type 0} (check : Option Refusal → A → Option Refusal) (P : A → Type 0) → ((x : A) → Tells (λ least. check least x) (P x)) →
    (xs : List A) → Tells (λ least. fold check least xs) (All P xs)
tells_each check P one [] least none = (none, All-nil P)
tells_each check P one (x ∷ xs) least none =
    let rest = tells_each check P one xs (check least x) none in
    let first = one x least rest.0 in
    (first.0, All-cons P x xs first.1 rest.1)

-- labels that are not refused leave no refusal before them
pub labels_tell : (names : List (List ℕ)) (set : Labels) (labels : List LabelAt) → Tells (no_repeats names set labels) (Unit {0})
labels_tell names set [] least none = (none, tt)
labels_tell names set (label ∷ labels) least none =
    let rest = labels_tell names (finite.insert set (label_at names label) tt) labels (required (not (contains set (label_at names label))) Twice label.name.at least) none in
    let first = required_tells (not (contains set (label_at names label))) Twice label.name.at least rest.0 in
    (first.0, tt)

-- a variant that is not refused leaves no refusal before it
pub variant_tells : (names : List (List ℕ)) (variant : Variant) → Tells (λ least. variant_required names least variant) (Unit {0})
variant_tells names variant = labels_tell names finite.empty variant.labels
