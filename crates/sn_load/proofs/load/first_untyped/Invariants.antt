use Rattle.std.proofs.Common.{◌≡◌, ◌<◌, ℕ, get_or, not, false}
use Rattle.sn_record.specs.Record.{Entries}
use Rattle.sn_pieces.specs.Lines.{is_of_type}
use Rattle.sn_load.proofs.load.first_untyped.Given as goal

abbrev pub invariant-loop-i : goal.invariant-loop-i
invariant-loop-i l = (k : ℕ) (d : Entries) → k < l.i → not (is_of_type l.variants (get_or l.records k d)) ≡ false
