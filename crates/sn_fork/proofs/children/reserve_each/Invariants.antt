use Rattle.std.proofs.Common.{◌≡◌, ◌<◌, length, map, take}
use Rattle.std.specs.List.{All}
use Rattle.sn_component.specs.Outbox.{room}
use Rattle.sn_fork.specs.declared.fork.Child.{Child}
use Rattle.sn_fork.specs.Fork.{child_seen}
use Rattle.sn_fork.proofs.children.reserve_each.Given as goal

-- nothing is seen of it, and up to here there is room
abbrev pub invariant-loop-c : goal.invariant-loop-c
invariant-loop-c l = record {
  same : map child_seen l.children.items ≡ map child_seen l.initial.children.items;
  many : length l.children.items ≡ length l.initial.children.items;
  room : All (λ (c : Child). 0 < room c.to) (take l.c l.children.items);
}
