use Rattle.sn_source_labels.proofs.Sources.{source_knows}
use Rattle.sn_source_labels.proofs.laws.names_know_labels.Goals as goal

pub returns : goal.returns
returns c = λ program parts k claim resolved at. source_knows program parts k claim resolved at
