use Rattle.std.proofs.Common.{◌≡◌, drop}
use Rattle.std.specs.List.{list_any}
use Rattle.sn_record.specs.Record.{is_match}
use Rattle.sn_sync.proofs.slots.matches_any.Given as goal

abbrev pub invariant-loop-pattern : goal.invariant-loop-pattern
invariant-loop-pattern l = list_any (is_match l.r) (drop l.pattern-index l.patterns) ≡ list_any (is_match l.r) l.patterns
