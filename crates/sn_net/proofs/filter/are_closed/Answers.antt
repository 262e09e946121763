use Rattle.std.proofs.Common.{refl, sym, ◌∙◌, subst, arith}
use Rattle.std.proofs.lemmas.Bool.{false≢true}
use Rattle.std.proofs.lemmas.List.{take_all}
use Rattle.std.proofs.lemmas.List.Elements.{All-get_or, All-more, All-same}
use Rattle.sn_net.specs.Filter.{IsClosedTemplate}
use Rattle.sn_net.proofs.filter.are_closed.Goals as goal

pub returns-then-not-is_closed : goal.returns-then-not-is_closed
returns-then-not-is_closed c = (
  λ no. absurd (false≢true no),
  λ closed.
      let P = IsClosedTemplate c.args.pattern.now in
      sym c.if-not-is_closed.true
      ∙ c.is_closed.ensures.1 (subst P (sym c.template-item.is) (All-get_or P _ c.loop-template.template-index c.template-item.result c.loop-template-test.true closed)),
)

pub loop-template-preserved : goal.loop-template-preserved
loop-template-preserved c =
    let P = IsClosedTemplate c.args.pattern.now in
    All-more P c.args.templates.now c.loop-template.template-index c.template-item.result c.loop-template-test.true c.loop-template.invariant
    (subst P c.template-item.is (c.is_closed.ensures.0 c.if-not-is_closed.false))

pub returns : goal.returns
returns c =
    let P = IsClosedTemplate c.args.pattern.now in (
      λ _. All-same P _ _ (sym (take_all c.loop-template.template-index _ (omega arith))) c.loop-template.invariant,
      λ _. refl,
    )
