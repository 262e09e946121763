use Rattle.std.proofs.Common.{◌≡◌, ◌<◌, length, map, drop}
use Rattle.std.specs.List.{All}
use Rattle.sn_component.specs.Outbox.{room}
use Rattle.sn_fork.specs.declared.fork.Child.{Child}
use Rattle.sn_fork.specs.Fork.{child_seen}
use Rattle.sn_fork.proofs.OneChild.{FirstHold}
use Rattle.sn_fork.proofs.children.end_each.Given as goal

-- up to here each holds the end; behind nothing has changed, and there is room
abbrev pub invariant-loop-c : goal.invariant-loop-c
invariant-loop-c l = record {
  hold : FirstHold l.c (map child_seen l.initial.children.items) (map child_seen l.children.items);
  room : All (λ (c : Child). 0 < room c.to) (drop l.c l.children.items);
  many : length l.children.items ≡ length l.initial.children.items;
}
