use Rattle.sn_replay.proofs.Queues.{same_verdict}
use Rattle.sn_replay.proofs.laws.queues_do_not_matter.Goals as goal

pub returns : goal.returns
returns c = λ run other text verdict alike is. same_verdict run other alike text verdict is
