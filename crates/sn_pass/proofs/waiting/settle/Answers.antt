use Rattle.std.proofs.Common.{ap, ◌∙◌}
use Rattle.sn_pass.specs.States.{held}
use Rattle.sn_pass.proofs.Arms.{always_ok}
use Rattle.sn_pass.proofs.waiting.settle.Goals as goal

pub returns-clause-put : goal.returns-clause-put
returns-clause-put c = always_ok c.put_by.result _ (c.in_ok-put_at.ensures.put ∙ ap held c.into_inner.ensures)

pub returns-clause-others : goal.returns-clause-others
returns-clause-others c = always_ok c.put_by.result _ c.in_ok-put_at.ensures.others

pub returns-clause-waits : goal.returns-clause-waits
returns-clause-waits c = always_ok c.put_by.result _ c.in_ok-room.ensures

pub returns-clause-same : goal.returns-clause-same
returns-clause-same c = always_ok c.put_by.result _ c.put_by.ensures
