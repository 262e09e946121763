use Rattle.std.proofs.Common.{◌≡◌}
use Rattle.sn_fork.specs.Turns.{GoesOn}
use Rattle.sn_fork.proofs.fork.Fork.take_more.Given as goal

-- the node goes on, and nothing is put
abbrev pub invariant-loop : goal.invariant-loop
invariant-loop g l = record { goes : GoesOn l.initial.self l.self; output : l.self.output ≡ l.initial.self.output }
