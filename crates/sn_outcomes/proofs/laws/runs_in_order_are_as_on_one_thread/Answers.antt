use Rattle.sn_load.specs.Load.{limits_of}
use Rattle.sn_outcomes.proofs.Runs.{run_is_once}
use Rattle.sn_outcomes.proofs.laws.runs_in_order_are_as_on_one_thread.Goals as goal

pub returns : goal.returns
returns c = λ file source input workers fuel depth queue plan found ordered finds. run_is_once (limits_of fuel depth) (file source).told (file input).told ordered found finds
