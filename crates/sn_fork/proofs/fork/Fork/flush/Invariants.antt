use Rattle.std.proofs.Common.{◌≡◌, ◌<◌, IsTrue}
use Rattle.sn_fork.specs.Turns.{GoesOn, moves_of}
use Rattle.sn_fork.proofs.fork.Fork.flush.Given as goal

-- entries are put to children, and nothing else changes
abbrev pub invariant-loop-c : goal.invariant-loop-c
invariant-loop-c g l = record {
  same : l.self ≡ record l.initial.self { children = l.self.children };
  goes : GoesOn l.initial.self l.self;
  some : IsTrue l.some → moves_of l.initial.self < moves_of l.self;
}
