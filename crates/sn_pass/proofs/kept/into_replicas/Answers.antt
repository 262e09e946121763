use Rattle.std.proofs.Common.{sym, ap, ◌∙◌}
use Rattle.sn_streams.specs.Keys.{Value}
use Rattle.sn_pass.specs.Keeping.{child_of}
use Rattle.sn_pass.specs.States.{held}
use Rattle.sn_pass.proofs.States.{empty_at, no_replicas, replica_held}
use Rattle.sn_pass.proofs.kept.into_replicas.Goals as goal

pub returns-in_default : goal.returns-in_default
returns-in_default c = λ n. empty_at c.new.result n c.new.ensures.empty ∙ sym (no_replicas n c.args.kept c.in_default.not-Replicas)

pub returns : goal.returns
returns c = λ n. sym (replica_held c.in-Replicas.replicas n) ∙ ap (λ k. child_of (held k) (Value n)) (sym c.in-Replicas.is)
