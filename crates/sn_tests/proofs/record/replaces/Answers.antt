use Rattle.sn_record.proofs.Values.{FitsLabel-Int}
use Rattle.sn_tests.proofs.record.replaces.Goals as goal

pub set-requires : goal.set-requires
set-requires c = FitsLabel-Int _ _
