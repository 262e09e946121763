-- What a program is refused for is the first of what breaks its rules.
use Rattle.std.proofs.Common.{◌≡◌, ◌≢◌, ◌↔◌, ℕ, ◌==◌, ◌&&◌, ◌||◌, true, false, nat_lt, nat_le, if◌then◌else◌, List, length, Option, Some, None, Result, Ok, Err, refl, sym, ap, ◌∙◌, subst, arith}
use Rattle.std.proofs.lemmas.Bool.Decides.{nat_tests}
use Rattle.sn_ast.specs.declared.declaration.Program.{Program}
use Rattle.sn_label_scope.specs.Refusals.{comes_before, rank}
use Rattle.sn_label_scope.specs.declared.refusal.Reason.{Reason}
use Rattle.sn_label_scope.specs.declared.refusal.Reason.TheVariants as reason
use Rattle.sn_label_scope.specs.declared.refusal.Refusal.{Refusal}
use Rattle.sn_net.specs.declared.expr.BoxProgram.{BoxProgram}
use Rattle.sn_net.specs.declared.net.Claim.{Claim}
use Rattle.sn_scope.specs.Declarations.{declarations_of}
use Rattle.sn_scope.specs.Numbering.{names_of}
use Rattle.sn_scope.specs.Resolution.{fault_at, most_names, resolution, resolved, unless_refused, with_main}
use Rattle.sn_scope.specs.Trees.{claims_within, most_nodes}
use Rattle.sn_scope.specs.declared.declarations.Declarations.{Declarations}
use Rattle.sn_scope.specs.declared.resolved.Parts.{Parts}
use Rattle.sn_label_scope.specs.declared.fault.ScopeFault.{ScopeFault}
use Rattle.sn_label_scope.specs.declared.fault.ScopeFault.TheVariants.{Unknown, Twice, Arity, Memory, NoMain, GuardTag, TooLarge, TooManyNames}
use Rattle.sn_scope_rules.specs.Programs.{ProgramBreaks}
use Rattle.sn_scope_rules.specs.Refusals.{IsFirst, arity, guard_tag, twice, unknown}
use Rattle.sn_scope_rules.proofs.Checks.{IsLeast}
use Rattle.sn_scope_rules.proofs.Declarations.{program_refuses}

-- of two refusals that do not come before one another each is the other
same_numbers : (a i b j : ℕ) → (nat_lt a b || ((a == b) && nat_lt i j)) ≡ false → (nat_lt b a || ((b == a) && nat_lt j i)) ≡ false → (a ≡ b) × (i ≡ j)
same_numbers a i b j one other = (grind (arith, nat_tests, one, other), grind (arith, nat_tests, one, other))

abbrev ranked : ℕ → Reason
ranked n = if n == 1 then reason.Unknown else (if n == 2 then reason.Twice else (if n == 3 then reason.Arity else reason.GuardTag))

ranked_back : (r : Reason) → ranked (rank r) ≡ r
ranked_back reason.Unknown = refl
ranked_back reason.Twice = refl
ranked_back reason.Arity = refl
ranked_back reason.GuardTag = refl

same_refusal : (a b : Refusal) → comes_before a b ≡ false → comes_before b a ≡ false → a ≡ b
same_refusal a b one other =
    let same = same_numbers a.at (rank a.reason) b.at (rank b.reason) one other in
    let reasons : a.reason ≡ b.reason = sym (ranked_back a.reason) ∙ ap ranked same.1 ∙ ranked_back b.reason in
    λ i. record { reason = reasons i; at = same.0 i }

-- the refusal of these four reasons that a fault is
abbrev refusal_of : ScopeFault → Option Refusal
refusal_of (Unknown at) = Some (unknown at)
refusal_of (Twice at) = Some (twice at)
refusal_of (Arity at) = Some (arity at)
refusal_of (GuardTag at) = Some (guard_tag at)
refusal_of NoMain = None
refusal_of TooManyNames = None
refusal_of (TooLarge at) = None
refusal_of Memory = None

abbrev pub refusal_in : Result Parts ScopeFault → Option Refusal
refusal_in (Ok made) = None
refusal_in (Err fault) = refusal_of fault

pub fault_back : (r : Reason) (at : ℕ) → refusal_of (fault_at r at) ≡ Some (record { reason = r; at = at })
fault_back reason.Unknown at = refl
fault_back reason.Twice at = refl
fault_back reason.Arity at = refl
fault_back reason.GuardTag at = refl

-- what comes later is none of the four
resolved_other : (names : List (List ℕ)) (boxes : List BoxProgram) (main : ℕ) (claims : Result (List Claim) ℕ) → refusal_in (resolved names boxes main claims) ≡ None
resolved_other names boxes main (Ok claims) =
    elim (nat_lt main (length claims)) as (λ b. refusal_in (if b then Ok (record { names = names; boxes = boxes; claims = claims; main = main }) else Err NoMain) ≡ None) [ true ↦ refl | false ↦ refl ]
resolved_other names boxes main (Err place) = refl

main_other : (names : List (List ℕ)) (st : Declarations) (main : Option ℕ) → refusal_in (with_main names st main) ≡ None
main_other names st None = refl
main_other names st (Some main) =
    elim (nat_le (length names) most_names) as (λ b. refusal_in (if b then resolved names st.boxes main (claims_within st most_nodes st.claims) else Err TooManyNames) ≡ None) [
      | true ↦ resolved_other names st.boxes main (claims_within st most_nodes st.claims)
      | false ↦ refl
    ]

refused_is : (names : List (List ℕ)) (st : Declarations) (refusals : Option Refusal) → refusal_in (unless_refused names st refusals) ≡ refusals
refused_is names st None = main_other names st st.main
refused_is names st (Some r) = fault_back r.reason r.at

module _ (program : Program) where
  abbrev left : Option Refusal
  left = (declarations_of (names_of program) program).refusals

  -- a refusal that comes is what is left
  refusal_left : (r : Refusal) → resolution program ≡ Err (fault_at r.reason r.at) → left ≡ Some r
  refusal_left r same = sym (refused_is (names_of program) (declarations_of (names_of program) program) left) ∙ ap refusal_in same ∙ fault_back r.reason r.at

  left_refusal : (r : Refusal) → left ≡ Some r → resolution program ≡ Err (fault_at r.reason r.at)
  left_refusal r same = ap (unless_refused (names_of program) (declarations_of (names_of program) program)) same

  first_left : (found : Option Refusal) → IsLeast (ProgramBreaks program) found → (r : Refusal) → IsFirst (ProgramBreaks program) r → found ≡ Some r
  first_left None none r first = absurd (none r first.stands)
  first_left (Some l) least r first = ap Some (same_refusal l r (first.first l least.stands) (least.first r first.stands))

  pub refuses_first : (r : Refusal) → (resolution program ≡ Err (fault_at r.reason r.at)) ↔ IsFirst (ProgramBreaks program) r
  refuses_first r =
      (λ same. subst (IsLeast (ProgramBreaks program)) (refusal_left r same) (program_refuses program), λ first. left_refusal r (first_left left (program_refuses program) r first))

  unbroken : (found : Option Refusal) → IsLeast (ProgramBreaks program) found → ((r : Refusal) → found ≡ Some r → ⊥) → (r : Refusal) → ProgramBreaks program r → ⊥
  unbroken None none never = none
  unbroken (Some l) least never = absurd (never l refl)

  broken : (found : Option Refusal) → IsLeast (ProgramBreaks program) found → ((r : Refusal) → ProgramBreaks program r → ⊥) → (r : Refusal) → found ≡ Some r → ⊥
  broken None none never r same = cc
  broken (Some l) least never r same = never l least.stands

  pub refuses_none : ((r : Refusal) → resolution program ≢ Err (fault_at r.reason r.at)) ↔ ((r : Refusal) → ProgramBreaks program r → ⊥)
  refuses_none =
      (λ never. unbroken left (program_refuses program) (λ r same. never r (left_refusal r same)), λ never r same. broken left (program_refuses program) never r (refusal_left r same))
