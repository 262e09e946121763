use Rattle.std.proofs.Common.{◌≡◌, drop}
use Rattle.sn_record.specs.Value.{is_printable_text}
use Rattle.sn_box_scope.proofs.expressions.is_printable.Given as goal

abbrev pub invariant-loop-byte : goal.invariant-loop-byte
invariant-loop-byte l = is_printable_text l.text ≡ is_printable_text (drop l.byte-index l.text)
