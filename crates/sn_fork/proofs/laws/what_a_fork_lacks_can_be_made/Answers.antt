use Rattle.sn_fork.proofs.Growing.{lacking_grows}
use Rattle.sn_fork.proofs.laws.what_a_fork_lacks_can_be_made.Goals as goal

pub returns : goal.returns
returns c = lacking_grows
