use Rattle.std.proofs.Common.{drop, [], ◌∷◌, sym, ap, subst, ◌+◌, ◌∙◌}
use Rattle.std.proofs.lemmas.List.Elements.{All-get_or, All-same}
use Rattle.sn_net.specs.Filter.{IsClosedArm}
use Rattle.sn_net.specs.Answer.{chosen, chosen_by, tag_number}
use Rattle.sn_net.specs.Item.{Fault}
use Rattle.sn_net.proofs.MatchedTags.{tags_there}
use Rattle.sn_filter.proofs.Using.{answer_of_fault, from_arm}
use Rattle.sn_filter.proofs.answer.choose.Goals as goal

pub eval-requires : goal.eval-requires
eval-requires c =
    let P = IsClosedArm c.args.f.now.pattern in
    tags_there c.args.f.now.pattern c.args.r.now c.arm-item.result.guard c.requires.matches
    (subst P (sym c.arm-item.is) (All-get_or P _ c.loop-arm.arm-index c.arm-item.result c.loop-arm-test.true (All-same P _ _ c.as_slice-arm-items.ensures c.requires.closed.arms))).guard

pub returns-in-Err-clause-fault : goal.returns-in-Err-clause-fault
returns-in-Err-clause-fault c =
    let tags = tag_number c.args.r.now in
    let arms = c.as_slice-arm-items.result.now in
    let last = c.args.f.now.templates in
    let behind = chosen tags (drop (c.loop-arm.arm-index + 1) arms) last in
    answer_of_fault c.args.f.now c.args.r.now c.in-Err.fault
    (sym c.loop-arm.invariant
    ∙ from_arm tags arms c.loop-arm.arm-index c.arm-item.result last c.loop-arm-test.true c.arm-item.is
    ∙ ap (λ x. chosen_by x c.arm-item.result.templates behind) (sym c.eval.ensures ∙ c.in-Err.is))
    ∙ ap (λ fault. Fault fault ∷ []) (sym c.fault_at.ensures)
