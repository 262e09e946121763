use Rattle.std.proofs.Common.{◌≡◌, ◌+◌, ◌≤◌, length, drop}
use Rattle.sn_input.specs.Line.{lines_of}
use Rattle.sn_input.specs.Reading.{most_records}
use Rattle.sn_input.proofs.Coming.{IsToCome}
use Rattle.sn_input.proofs.reading.read_records.Given as goal

abbrev pub invariant-loop-line : goal.invariant-loop-line
invariant-loop-line l = record {
  numbered : l.number ≡ length l.yielded;
  few : length l.input.records ≤ most_records;
  to_come : IsToCome l.fn.names l.bytes (l.number + 1) l.input (drop (length l.yielded) (lines_of l.bytes));
}
