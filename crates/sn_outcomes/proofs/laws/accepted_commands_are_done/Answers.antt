use Rattle.sn_outcomes.proofs.Done.{once_done, run_done, trace_done, replay_done, check_done, plan_done, print_done, sample_done}
use Rattle.sn_outcomes.proofs.Feeding.{feed_done}
use Rattle.sn_outcomes.proofs.laws.accepted_commands_are_done.Goals as goal

pub returns-clause-once : goal.returns-clause-once
returns-clause-once c = once_done

pub returns-clause-run : goal.returns-clause-run
returns-clause-run c = run_done

pub returns-clause-check : goal.returns-clause-check
returns-clause-check c = check_done

pub returns-clause-plan : goal.returns-clause-plan
returns-clause-plan c = plan_done

pub returns-clause-print : goal.returns-clause-print
returns-clause-print c = print_done

pub returns-clause-sample : goal.returns-clause-sample
returns-clause-sample c = sample_done

pub returns-clause-trace : goal.returns-clause-trace
returns-clause-trace c = trace_done

pub returns-clause-replay : goal.returns-clause-replay
returns-clause-replay c = replay_done

pub returns-clause-feed : goal.returns-clause-feed
returns-clause-feed c = feed_done
