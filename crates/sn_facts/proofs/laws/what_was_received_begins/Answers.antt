use Rattle.sn_facts.proofs.Working.{received_first}
use Rattle.sn_facts.proofs.laws.what_was_received_begins.Goals as goal

pub returns : goal.returns
returns g c = received_first
