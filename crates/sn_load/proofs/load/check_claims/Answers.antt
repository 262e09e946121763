use Rattle.std.proofs.Common.{◌≡◌, ◌<◌, List, get_or, length, take, sym, ap, subst, ◌∙◌, arith}
use Rattle.std.proofs.lemmas.List.{take_all}
use Rattle.std.proofs.lemmas.List.Elements.{All-more, All-same}
use Rattle.sn_net.specs.declared.net.Claim.{Claim}
use Rattle.sn_typing.specs.Accepted.{IsAccepted}
use Rattle.sn_load.proofs.Loading.{claim_refused}
use Rattle.sn_load.proofs.load.check_claims.Goals as goal

pub returns-in-Err-clause-refused : goal.returns-in-Err-clause-refused
returns-in-Err-clause-refused c =
    claim_refused c.args.parts.now c.loop-claim.claim-index c.claim-item.result
    (c.claim-item.is ∙ ap (λ (cs : List Claim). get_or cs c.loop-claim.claim-index c.claim-item.result) c.as_slice-claim-items.ensures)
    (subst (λ (cs : List Claim). c.loop-claim.claim-index < length cs) c.as_slice-claim-items.ensures c.loop-claim-test.true)
    c.loop-claim.invariant c.in-Err.fault c.tell_fault.result c.in-Err.ensures c.tell_fault.ensures

pub loop-claim-preserved : goal.loop-claim-preserved
loop-claim-preserved c =
    let claim = c.claim-item.result in
    let here = c.claim-item.is ∙ ap (λ (cs : List Claim). get_or cs c.loop-claim.claim-index claim) c.as_slice-claim-items.ensures in
    All-more (IsAccepted c.args.parts.now.boxes) c.args.parts.now.claims c.loop-claim.claim-index claim
    (subst (λ (cs : List Claim). c.loop-claim.claim-index < length cs) c.as_slice-claim-items.ensures c.loop-claim-test.true)
    c.loop-claim.invariant (subst (IsAccepted c.args.parts.now.boxes) here c.in_default.ensures)

pub returns-clause-accepted : goal.returns-clause-accepted
returns-clause-accepted c =
    let all : take c.loop-claim.claim-index c.args.parts.now.claims ≡ c.args.parts.now.claims =
    take_all c.loop-claim.claim-index c.args.parts.now.claims (omega (arith, c.loop-claim-test.false, ap length c.as_slice-claim-items.ensures)) in
    All-same (IsAccepted c.args.parts.now.boxes) c.args.parts.now.claims (take c.loop-claim.claim-index c.args.parts.now.claims) (sym all) c.loop-claim.invariant
