use Rattle.sn_record.proofs.Values.{FitsLabel-Int}
use Rattle.sn_tests.proofs.wire.small_record.Goals as goal

pub set-requires : goal.set-requires
set-requires rt c = FitsLabel-Int _ _
