use Rattle.sn_sampled.proofs.Done.{never_refused, samples_done}
use Rattle.sn_sampled.proofs.laws.samples_are_done.Goals as goal

pub returns-clause-never_refused : goal.returns-clause-never_refused
returns-clause-never_refused c = never_refused

pub returns-clause-done : goal.returns-clause-done
returns-clause-done c = samples_done
