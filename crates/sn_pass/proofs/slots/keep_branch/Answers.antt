use Rattle.std.proofs.Common.{ap, ◌∙◌}
use Rattle.sn_streams.specs.Keys.{Branch}
use Rattle.sn_pass.specs.Keeping.{child_of}
use Rattle.sn_pass.specs.States.{held}
use Rattle.sn_pass.specs.declared.kept.Kept.{Kept}
use Rattle.sn_pass.proofs.States.{held-Branches}
use Rattle.sn_pass.proofs.slots.keep_branch.Goals as goal

pub returns-clause-put : goal.returns-clause-put
returns-clause-put c =
    ap (λ (k : Kept). child_of (held k) (Branch c.args.i)) c.keep.ensures ∙ held-Branches c.put_at.new.states c.args.i ∙ c.in_ok-put_at.ensures.put ∙ ap held c.into_inner.ensures

pub returns-clause-others : goal.returns-clause-others
returns-clause-others c = λ j apart. ap (λ (k : Kept). child_of (held k) (Branch j)) c.keep.ensures ∙ held-Branches c.put_at.new.states j ∙ c.in_ok-put_at.ensures.others j apart
