use Rattle.std.proofs.Common.{ap, ◌∙◌}
use Rattle.sn_pass.specs.Keeping.{left_of, right_of}
use Rattle.sn_pass.specs.States.{held}
use Rattle.sn_pass.specs.declared.kept.Kept.{Kept}
use Rattle.sn_pass.proofs.kept.keep_parts.Goals as goal

pub returns-clause-left : goal.returns-clause-left
returns-clause-left c = ap (λ (k : Kept). left_of (held k)) c.keep.ensures ∙ c.in_ok-parts.ensures.left ∙ ap held c.into_inner.ensures

pub returns-clause-right : goal.returns-clause-right
returns-clause-right c = ap (λ (k : Kept). right_of (held k)) c.keep.ensures ∙ c.in_ok-parts.ensures.right ∙ ap held c.into_inner-2.ensures
