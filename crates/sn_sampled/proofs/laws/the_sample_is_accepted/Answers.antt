use Rattle.sn_sampled.proofs.Program.{built_in}
use Rattle.sn_sampled.proofs.laws.the_sample_is_accepted.Goals as goal

pub returns : goal.returns
returns c = built_in
