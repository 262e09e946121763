-- The claims of resolved parts are all accepted, or one is the first that is refused, for one thing.
use Rattle.std.proofs.Common.{ℕ, List, ◌≡◌, ◌<◌, ◌⊎◌, sym, ◌∙◌, ap, subst, inl, inr, take, arith}
use Rattle.std.specs.Prelude.{◌≢◌, Result, Ok, Err, Some, slice_get}
use Rattle.std.specs.List.{All}
use Rattle.std.proofs.lemmas.Bool.{cases_order}
use Rattle.std.proofs.lemmas.List.{length-take, get_or-take}
use Rattle.std.proofs.lemmas.Option.{slice_get_within, get_or_from_slice_get}
use Rattle.sn_net.specs.declared.expr.BoxProgram.{BoxProgram}
use Rattle.sn_net.specs.declared.net.Claim.{Claim}
use Rattle.sn_typing.specs.Accepted.{IsAccepted}
use Rattle.sn_flow.specs.Verdicts.{AreOne, Checked}
use Rattle.sn_flow.specs.declared.fault.FlowFault.{FlowFault}
use Rattle.sn_flow.specs.declared.fault.FlowFault.TheVariants as flow
use Rattle.sn_flow.proofs.Answering.{one_check}
use Rattle.sn_output.specs.Types.{variant_text}
use Rattle.sn_scope.specs.declared.resolved.Parts.{Parts}
use Rattle.sn_load.specs.Scope.{IsIllTyped, IsMain, RefusesClaim}
use Rattle.sn_load.specs.declared.load.Program.{Program}
use Rattle.sn_stop.specs.declared.refusal.Refusal.{Refusal}
use Rattle.sn_stop.specs.declared.refusal.Refusal.TheVariants.{NoMain, IllTyped, Variants}
use Rattle.sn_stop.specs.declared.refusal.TypeFault.{TypeFault}
use Rattle.sn_stop.specs.declared.refusal.TypeFault.TheVariants as type

-- what all claims have, each has; and what the first n have, each of them has
element_has : (P : Claim → Type 0) (claims : List Claim) (i : ℕ) (claim : Claim) → slice_get claims i ≡ Some claim → All P claims → P claim
element_has P claims i claim here all = subst P (get_or_from_slice_get claims i claim claim here) (all i claim (slice_get_within claims i claim here))

first_has : (P : Claim → Type 0) (claims : List Claim) (n i : ℕ) (claim : Claim) → slice_get claims i ≡ Some claim → i < n → All P (take n claims) → P claim
first_has P claims n i claim here below all =
    let inside = slice_get_within claims i claim here in
    let long = length-take n claims in
    subst P (get_or-take n claims i claim below ∙ get_or_from_slice_get claims i claim claim here) (all i claim (omega arith))

module _ (boxes : List BoxProgram) (claim : Claim) where
  -- a claim that is accepted is not refused
  accepted_or_refused : (fault : FlowFault) → IsAccepted boxes claim → Checked boxes claim (Err fault) → fault ≢ flow.Memory → ⊥
  accepted_or_refused fault accepted checked n = apart (one_check boxes claim (Ok tt) (Err fault) accepted checked)
    where
      apart : AreOne {A = Unit {0}} (Ok tt) (Err fault) → ⊥
      apart (inl e) = absurd cc
      apart (inr (inl e)) = absurd cc
      apart (inr (inr e)) = let memory : fault ≡ flow.Memory = cc in absurd (n memory)

  -- and it is refused for one thing
  one_fault : (fault other : FlowFault) → Checked boxes claim (Err fault) → Checked boxes claim (Err other) → fault ≢ flow.Memory → other ≢ flow.Memory → fault ≡ other
  one_fault fault other checked also n k = same (one_check boxes claim (Err fault) (Err other) checked also)
    where
      same : AreOne {A = Unit {0}} (Err fault) (Err other) → fault ≡ other
      same (inl e) = cc
      same (inr (inl e)) = let memory : fault ≡ flow.Memory = cc in absurd (n memory)
      same (inr (inr e)) = let memory : other ≡ flow.Memory = cc in absurd (k memory)

-- the first claim that is refused is one, and so its fault is
same_fault : (parts : Parts) (fault other : FlowFault) → RefusesClaim parts fault → RefusesClaim parts other → fault ≢ flow.Memory → other ≢ flow.Memory → fault ≡ other
same_fault parts fault other r s n k = by (cases_order r.index s.index)
  where
    by : (r.index ≡ s.index) ⊎ ((r.index < s.index) ⊎ (s.index < r.index)) → fault ≡ other
    by (inl at) =
        let claims : Some r.claim ≡ Some s.claim = sym r.here ∙ ap (slice_get parts.claims) at ∙ s.here in
        let claim : s.claim ≡ r.claim = cc in
        one_fault parts.boxes r.claim fault other r.refused (subst (λ c. Checked parts.boxes c (Err other)) claim s.refused) n k
    by (inr (inl below)) = absurd (accepted_or_refused parts.boxes r.claim fault (first_has (IsAccepted parts.boxes) parts.claims s.index r.index r.claim r.here below s.earlier) r.refused n)
    by (inr (inr below)) = absurd (accepted_or_refused parts.boxes s.claim other (first_has (IsAccepted parts.boxes) parts.claims r.index s.index s.claim s.here below r.earlier) s.refused k)

-- the refusal of a claim; want of memory is none
abbrev claim_refusal : Parts → FlowFault → Refusal
claim_refusal parts (flow.NoRoute at v) = IllTyped type.NoRoute at (variant_text parts.names v)
claim_refusal parts (flow.BadOutput at v) = IllTyped type.BadOutput at (variant_text parts.names v)
claim_refusal parts (flow.TooManyVariants at) = Variants at
claim_refusal parts flow.Memory = NoMain

-- what the check of the claims finds
pub data IsJudged (parts : Parts) : Result Program Refusal → Type 0 where
  main : {program : Program} → IsMain parts program → IsJudged parts (Ok program)
  refuses : (fault : FlowFault) → RefusesClaim parts fault → fault ≢ flow.Memory → IsJudged parts (Err (claim_refusal parts fault))

same_main : (parts : Parts) (program other : Program) → IsMain parts program → IsMain parts other → program ≡ other
same_main parts program other p q =
    let claims : Some program.claim ≡ Some other.claim = sym p.main ∙ q.main in
    let claim : program.claim ≡ other.claim = cc in
    λ i. record { names = (p.names_are ∙ sym q.names_are) i; boxes = (p.boxes_are ∙ sym q.boxes_are) i; claim = claim i }

main_or_refused : (parts : Parts) (program : Program) (fault : FlowFault) → IsMain parts program → RefusesClaim parts fault → fault ≢ flow.Memory → ⊥
main_or_refused parts program fault p r n =
    accepted_or_refused parts.boxes r.claim fault (element_has (IsAccepted parts.boxes) parts.claims r.index r.claim r.here p.accepted) r.refused n

pub judged_once : (parts : Parts) (found other : Result Program Refusal) → IsJudged parts found → IsJudged parts other → found ≡ other
judged_once parts found other (IsJudged.main p) (IsJudged.main q) = ap Ok (same_main parts _ _ p q)
judged_once parts found other (IsJudged.main {program = program} p) (IsJudged.refuses g s k) = absurd (main_or_refused parts program g p s k)
judged_once parts found other (IsJudged.refuses f r n) (IsJudged.main {program = program} q) = absurd (main_or_refused parts program f q r n)
judged_once parts found other (IsJudged.refuses f r n) (IsJudged.refuses g s k) = ap (λ x. Err (claim_refusal parts x)) (same_fault parts f g r s n k)

pub types_judged : (parts : Parts) (fault : TypeFault) (at : ℕ) (variant : List ℕ) → IsIllTyped parts fault at variant → IsJudged parts (Err (IllTyped fault at variant))
types_judged parts type.NoRoute at variant (v, r, text) = subst (λ t. IsJudged parts (Err (IllTyped type.NoRoute at t))) (sym text) (IsJudged.refuses (flow.NoRoute at v) r (λ e. absurd cc))
types_judged parts type.BadOutput at variant (v, r, text) = subst (λ t. IsJudged parts (Err (IllTyped type.BadOutput at t))) (sym text) (IsJudged.refuses (flow.BadOutput at v) r (λ e. absurd cc))

pub variants_judged : (parts : Parts) (at : ℕ) → RefusesClaim parts (flow.TooManyVariants at) → IsJudged parts (Err (Variants at))
variants_judged parts at r = IsJudged.refuses (flow.TooManyVariants at) r (λ e. absurd cc)
