use Rattle.std.proofs.Common.{◌≡◌, false}
use Rattle.sn_component.specs.Outbox.{has_ended}
use Rattle.sn_fork.specs.Turns.{GoesOn}
use Rattle.sn_fork.proofs.fork.Fork.give_more.Given as goal

-- the node goes on, and the end wasn't put
abbrev pub invariant-loop : goal.invariant-loop
invariant-loop g l = record { goes : GoesOn l.initial.self l.self; ended : has_ended l.initial.self.output ≡ false → has_ended l.self.output ≡ false }
