use Rattle.std.proofs.Common.{◌≡◌, ◌≤◌, ◌<◌, IsTrue, false, length}
use Rattle.sn_component.specs.Outbox.{given, has_ended}
use Rattle.sn_component.proofs.outbox.Outbox.send.Given as goal

-- what is given stays, and entries are put
abbrev pub invariant-loop-x : goal.invariant-loop-x
invariant-loop-x g l = record {
  given : given l.self ≡ given l.initial.self;
  made : l.self.put.made ≡ l.initial.self.put.made;
  moves : length l.initial.self.put.moved ≤ length l.self.put.moved;
  unended : has_ended l.initial.self.put ≡ false → has_ended l.self.put ≡ false;
  some : IsTrue l.some → length l.initial.self.put.moved < length l.self.put.moved;
}

abbrev pub decreases-loop-x : goal.decreases-loop-x
decreases-loop-x g l = length l.self.held.items
