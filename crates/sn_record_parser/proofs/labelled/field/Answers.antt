use Rattle.sn_record_parser.proofs.Entries.{has_field}
use Rattle.sn_record_parser.proofs.labelled.field.Goals as goal

pub returns : goal.returns
returns c = has_field c.in_ok-want.ensures c.in_ok-value.ensures.0 c.in_ok-value.ensures.1
