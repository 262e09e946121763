use Rattle.std.proofs.Common.{sym, ◌∙◌, subst, arith}
use Rattle.std.proofs.lemmas.Bool.{false≢true}
use Rattle.std.proofs.lemmas.List.{take_all}
use Rattle.std.proofs.lemmas.List.Elements.{All-get_or, All-more, All-same}
use Rattle.sn_net.specs.Filter.{IsClosedArm, IsClosedTemplate}
use Rattle.sn_net.proofs.filter.Filter.is_closed.Goals as goal

pub returns-then-not-is_closed : goal.returns-then-not-is_closed
returns-then-not-is_closed c = (
  λ no. absurd (false≢true no),
  λ closed.
      let P = IsClosedArm c.args.self.now.pattern in
      sym c.if-not-is_closed.true
      ∙ c.is_closed.ensures.1 (subst P (sym c.arm-item.is) (All-get_or P _ c.loop-arm.arm-index c.arm-item.result c.loop-arm-test.true (All-same P _ _ c.as_slice-arm-items.ensures closed.arms))),
)

pub loop-arm-preserved : goal.loop-arm-preserved
loop-arm-preserved c =
    let P = IsClosedArm c.args.self.now.pattern in
    All-more P c.as_slice-arm-items.result.now c.loop-arm.arm-index c.arm-item.result c.loop-arm-test.true c.loop-arm.invariant
    (subst P c.arm-item.is (c.is_closed.ensures.0 c.if-not-is_closed.false))

pub returns : goal.returns
returns c =
    let P = IsClosedArm c.args.self.now.pattern in
    let Q = IsClosedTemplate c.args.self.now.pattern in (
      λ yes. record {
        arms = All-same P _ _ (sym (take_all c.loop-arm.arm-index _ (omega arith) ∙ c.as_slice-arm-items.ensures)) c.loop-arm.invariant;
        last = All-same Q _ _ (sym c.as_slice.ensures) (c.are_closed.ensures.0 yes);
      },
      λ closed. c.are_closed.ensures.1 (All-same Q _ _ c.as_slice.ensures closed.last),
    )
