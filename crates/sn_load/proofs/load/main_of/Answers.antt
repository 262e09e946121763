use Rattle.std.proofs.Common.{◌≡◌, ◌<◌, All, get_or, length, Some, sym, ap, ◌∙◌, subst}
use Rattle.std.proofs.lemmas.Option.{slice_get-get_or}
use Rattle.sn_net.specs.WellFormed.{FitsBoxes}
use Rattle.sn_net.specs.declared.net.Claim.{Claim}
use Rattle.sn_typing.specs.Accepted.{IsAccepted}
use Rattle.sn_scope.specs.Resolution.{parts_of}
use Rattle.sn_scope.specs.declared.resolved.Parts.{Parts}
use Rattle.sn_load.proofs.load.main_of.Goals as goal
use Rattle.sn_load.proofs.load.main_of.Goals.{After-drop-claims}

-- the claim that was taken out is the main one
taken_at : (c : After-drop-claims) → c.swap_remove-claim.result ≡ get_or (parts_of c.args.resolved).claims (parts_of c.args.resolved).main c.swap_remove-claim.result
taken_at c =
    let claim : Claim = c.swap_remove-claim.result in
    c.swap_remove-claim.ensures.value ∙ ap (λ cs. get_or cs c.into_parts-names.result.main claim) c.into_vec-claims.ensures ∙ ap (λ (p : Parts). get_or p.claims p.main claim) c.into_parts-names.ensures.parts

main_below : (c : After-drop-claims) → (parts_of c.args.resolved).main < length (parts_of c.args.resolved).claims
main_below c = subst (λ (p : Parts). p.main < length p.claims) c.into_parts-names.ensures.parts c.into_parts-names.ensures.main

pub returns-clause-main : goal.returns-clause-main
returns-clause-main c = record {
  names_are = ap (λ (p : Parts). p.names) c.into_parts-names.ensures.parts;
  boxes_are = ap (λ (p : Parts). p.boxes) c.into_parts-names.ensures.parts;
  main = slice_get-get_or (parts_of c.args.resolved).claims (parts_of c.args.resolved).main c.swap_remove-claim.result (main_below c) ∙ ap Some (sym (taken_at c));
  accepted = c.requires;
}

pub returns-clause-accepted : goal.returns-clause-accepted
returns-clause-accepted c =
    let parts : Parts = parts_of c.args.resolved in
    let claim : Claim = c.swap_remove-claim.result in
    subst (λ (p : Parts). IsAccepted p.boxes claim) (sym c.into_parts-names.ensures.parts)
    (subst (IsAccepted parts.boxes) (sym (taken_at c)) (c.requires parts.main claim (main_below c)))

pub returns-clause-formed : goal.returns-clause-formed
returns-clause-formed c =
    let parts : Parts = parts_of c.args.resolved in
    let claim : Claim = c.swap_remove-claim.result in
    let all = subst (λ (p : Parts). All (λ claim. FitsBoxes p.boxes claim.net) p.claims) c.into_parts-names.ensures.parts c.into_parts-names.ensures.formed in
    subst (λ (p : Parts). FitsBoxes p.boxes claim.net) (sym c.into_parts-names.ensures.parts)
    (subst (λ (x : Claim). FitsBoxes parts.boxes x.net) (sym (taken_at c)) (all parts.main claim (main_below c)))
