use Rattle.std.proofs.Common.{◌∷◌, ◌∙◌, ap}
use Rattle.sn_expr_parser.proofs.BoxSteps.{innermost_none, innermost_some, last_step_same}
use Rattle.sn_expr_parser.proofs.box_after.without_last_parts.Goals as goal

pub returns-in_default : goal.returns-in_default
returns-in_default c = innermost_none _ _ _ _ _ c.in_default.ensures c.loop-frame.invariant

pub loop-frame-preserved : goal.loop-frame-preserved
loop-frame-preserved c =
    let rest = c.pop.new.self in
    last_step_same c.args.frames c.loop-frame.frames rest c.args.whole c.loop-frame.whole c.in_ok-whole-in-Ok.whole c.in-Ok.part
    (c.in-Some.ensures ∙ ap (λ f. f ∷ rest) c.in-Ok.ensures) c.in_ok-whole-in-Ok.ensures c.loop-frame.invariant

pub returns-in-Err : goal.returns-in-Err
returns-in-Err c = innermost_some _ _ _ _ _ _ _ c.in-Some.ensures c.in-Err.ensures.0 c.in-Err.ensures.1 c.loop-frame.invariant
