use Rattle.std.proofs.Common.{sym, ◌∙◌}
use Rattle.std.proofs.lemmas.List.Elements.{All-same}
use Rattle.sn_net.specs.Filter.{IsClosedTemplate}
use Rattle.sn_net.proofs.filter.Arm.is_closed.Goals as goal

pub returns-then-is_over : goal.returns-then-is_over
returns-then-is_over c =
    let P = IsClosedTemplate c.args.pattern.now in (
      λ yes. record { guard = sym c.is_over.ensures ∙ c.if-is_over.true; templates = All-same P _ _ (sym c.as_slice.ensures) (c.are_closed.ensures.0 yes) },
      λ closed. c.are_closed.ensures.1 (All-same P _ _ c.as_slice.ensures closed.templates),
    )
