use Rattle.std.proofs.Common.{arith}
use Rattle.sn_record_parser.proofs.Values.{text_has}
use Rattle.sn_record_parser.proofs.value.text.Goals as goal

pub returns : goal.returns
returns c = rw c.len-length.ensures (λ levels rest. text_has c.args.bytes rest (omega arith) (c.is_sound.ensures.0 c.if-not-is_sound.false))
