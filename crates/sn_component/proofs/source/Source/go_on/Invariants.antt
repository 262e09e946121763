use Rattle.std.proofs.Common.{◌≡◌, ◌≤◌, false, length}
use Rattle.sn_component.specs.Outbox.{has_ended}
use Rattle.sn_component.proofs.source.Source.go_on.Given as goal

-- the source stays what it is, and entries are put
abbrev pub invariant-loop : goal.invariant-loop
invariant-loop g l = record {
  run : l.self.run ≡ l.initial.self.run;
  made : l.self.output.made ≡ l.initial.self.output.made;
  moves : length l.initial.self.output.moved ≤ length l.self.output.moved;
  unended : has_ended l.initial.self.output ≡ false → has_ended l.self.output ≡ false;
}
