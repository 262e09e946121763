use Rattle.sn_types.proofs.Witness.{subtypes_by_records}
use Rattle.sn_types.proofs.laws.subtypes_by_their_records.Goals as goal

pub returns : goal.returns
returns c = subtypes_by_records
