use Rattle.std.proofs.Common.{◌≡◌, length}
use Rattle.sn_graph.specs.Listed.{IsListed, with_agenda}
use Rattle.sn_graph.proofs.arena.Arena.settle.Given as goal

abbrev pub invariant-loop-i : goal.invariant-loop-i
invariant-loop-i l = record {
  same : l.self ≡ with_agenda l.self.agenda l.initial.self;
  listed : IsListed l.self;
}

abbrev pub decreases-loop-i : goal.decreases-loop-i
decreases-loop-i l = length l.self.agenda.stack.items
