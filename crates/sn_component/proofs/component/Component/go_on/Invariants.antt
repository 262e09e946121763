use Rattle.std.proofs.Common.{◌≡◌, ◌≤◌, false}
use Rattle.sn_component.specs.Outbox.{has_ended}
use Rattle.sn_component.specs.Seen.{moves_of}
use Rattle.sn_component.proofs.component.Component.go_on.Given as goal

-- the node stays what it is, and entries move
abbrev pub invariant-loop : goal.invariant-loop
invariant-loop g l = record {
  run : l.self.run ≡ l.initial.self.run;
  path : l.self.path ≡ l.initial.self.path;
  input : l.self.input.made ≡ l.initial.self.input.made;
  output : l.self.output.made ≡ l.initial.self.output.made;
  moves : moves_of l.initial.self ≤ moves_of l.self;
  unended : has_ended l.initial.self.output ≡ false → has_ended l.self.output ≡ false;
}
