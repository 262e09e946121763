use Rattle.sn_outcomes.proofs.RecordFiles.{file_read_once}
use Rattle.sn_outcomes.proofs.laws.record_file_is_read_once.Goals as goal

pub returns : goal.returns
returns c = record { one_outcome = file_read_once }
