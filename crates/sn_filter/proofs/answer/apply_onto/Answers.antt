use Rattle.std.proofs.Common.{◌++◌, Some, map, sym, ap, ◌∙◌}
use Rattle.std.proofs.lemmas.List.Elements.{All-pop}
use Rattle.sn_net.specs.Filter.{IsClosedTemplate}
use Rattle.sn_net.specs.Item.{modelled}
use Rattle.sn_net.specs.Answer.{template_record}
use Rattle.sn_filter.proofs.Adding.{added_last, added_but_last}
use Rattle.sn_filter.proofs.Using.{answer_of_used, used_closed}
use Rattle.sn_filter.proofs.answer.apply_onto.Goals as goal

-- src/answer.rt:110:9
pub add_each-requires-clause-closed : goal.add_each-requires-clause-closed
add_each-requires-clause-closed c =
    (All-pop (IsClosedTemplate c.args.f.now.pattern) _ c.in-Some.earlier.now (Some c.in-Some.last.now) c.in-Some.ensures.cases.0 (used_closed c.args.f.now c.args.taken c.args.templates.now c.requires.closed c.requires.templates)).0

-- src/answer.rt:113:9
pub template_record_owned-made-requires-clause-from : goal.template_record_owned-made-requires-clause-from
template_record_owned-made-requires-clause-from c =
    (All-pop (IsClosedTemplate c.args.f.now.pattern) _ c.in-Some.earlier.now (Some c.in-Some.last.now) c.in-Some.ensures.cases.0 (used_closed c.args.f.now c.args.taken c.args.templates.now c.requires.closed c.requires.templates)).1.named

-- src/answer.rt:111:9
pub returns-then-not-branch : goal.returns-then-not-branch
returns-then-not-branch c =
    (added_but_last c.args.f.now.place (template_record c.args.taken c.args.f.now.pattern) c.args.templates.now c.in-Some.earlier.now c.in-Some.last.now _ _ _
    c.in-Some.ensures.cases.0 c.if-not-branch.true c.in_ok-add_each.ensures).items
    ∙ ap (λ items. map modelled c.args.items.now ++ items) (sym (answer_of_used c.args.f.now c.args.taken c.args.templates.now c.requires.templates))

-- src/answer.rt:101:1
pub returns : goal.returns
returns c =
    (added_last c.args.f.now.place (template_record c.args.taken c.args.f.now.pattern) c.args.templates.now c.in-Some.earlier.now c.in-Some.last.now _ _ _ _ _
    c.in-Some.ensures.cases.0 c.if-not-branch.false c.in_ok-add_each.ensures (c.in_ok-add.ensures _ c.template_record_owned-made.ensures)).items
    ∙ ap (λ items. map modelled c.args.items.now ++ items) (sym (answer_of_used c.args.f.now c.args.taken c.args.templates.now c.requires.templates))
