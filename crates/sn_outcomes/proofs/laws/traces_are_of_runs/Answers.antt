use Rattle.sn_outcomes.proofs.Done.{replay_by_run, trace_again}
use Rattle.sn_outcomes.proofs.laws.traces_are_of_runs.Goals as goal

pub returns : goal.returns
returns c = record { again = trace_again; printed = replay_by_run }
