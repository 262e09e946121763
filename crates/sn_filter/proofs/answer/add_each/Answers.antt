use Rattle.std.proofs.Common.{sym, subst}
use Rattle.std.proofs.lemmas.List.Elements.{All-get_or}
use Rattle.sn_net.specs.Filter.{IsClosedTemplate}
use Rattle.sn_net.specs.Answer.{template_record}
use Rattle.sn_filter.proofs.Adding.{added_from, added_fault}
use Rattle.sn_filter.proofs.answer.add_each.Goals as goal

-- src/answer.rt:71:13
pub template_record-made-requires-clause-from : goal.template_record-made-requires-clause-from
template_record-made-requires-clause-from c =
    let P = IsClosedTemplate c.args.f.now.pattern in
    (subst P (sym c.template-item.is) (All-get_or P _ c.loop-template.template-index c.template-item.result c.loop-template-test.true c.requires.closed)).named

-- src/answer.rt:73:13
pub returns-then-not-branch : goal.returns-then-not-branch
returns-then-not-branch c =
    c.loop-template.invariant _ _
    (added_fault c.args.f.now.place c.loop-template.template-index (template_record c.args.taken.now c.args.f.now.pattern) c.args.templates.now c.template-item.result _ _ _
    c.loop-template-test.true c.template-item.is c.if-not-branch.true (c.in_ok-add.ensures _ c.template_record-made.ensures))

-- src/answer.rt:70:5
pub loop-template-preserved : goal.loop-template-preserved
loop-template-preserved c after whole rest =
    c.loop-template.invariant after whole
    (added_from c.args.f.now.place c.loop-template.template-index (template_record c.args.taken.now c.args.f.now.pattern) c.args.templates.now c.template-item.result _ _ after _ whole
    c.loop-template-test.true c.template-item.is c.if-not-branch.false (c.in_ok-add.ensures _ c.template_record-made.ensures) rest)
