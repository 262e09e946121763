use Rattle.sn_plain.proofs.Planned.{planned_runs, planned_typed}
use Rattle.sn_plain.proofs.ready.Checked.into_planned.Goals as goal

pub plan-requires-clause-accepted : goal.plan-requires-clause-accepted
plan-requires-clause-accepted c = ∣ c.requires.accepted ∣₁

pub returns-clause-typed : goal.returns-clause-typed
returns-clause-typed c = planned_typed c.args.self c.requires.formed c.requires.accepted c.requires.of_type c.in_ok-net.net c.in_ok-net.ensures.plan

pub returns-clause-alike : goal.returns-clause-alike
returns-clause-alike c = planned_runs c.args.self c.requires.formed c.requires.accepted c.requires.of_type c.in_ok-net.net c.in_ok-net.ensures.plan
