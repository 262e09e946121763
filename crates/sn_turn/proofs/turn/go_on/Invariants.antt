use Rattle.std.proofs.Common.{◌≡◌, false}
use Rattle.sn_component.specs.Outbox.{has_ended}
use Rattle.sn_turn.specs.Turns.{Spawned, Unfolds}
use Rattle.sn_turn.proofs.turn.go_on.Given as goal

-- the fork goes on, with its new children and their nodes, and the end wasn't put
abbrev pub invariant-loop : goal.invariant-loop
invariant-loop g l = record {
  unfolds : Unfolds l.initial.fork l.fork;
  spawned : Spawned l.initial.fork l.fork l.initial.spawned.items l.spawned.items;
  ended : has_ended l.initial.fork.output ≡ false → has_ended l.fork.output ≡ false;
}
