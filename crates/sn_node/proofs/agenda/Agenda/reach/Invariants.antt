use Rattle.std.proofs.Common.{◌≡◌, ◌+◌, ◌≤◌, length}
use Rattle.std.specs.Vec.{vec_capacity}
use Rattle.sn_node.proofs.agenda.Agenda.reach.Given as goal

abbrev pub invariant-loop-number : goal.invariant-loop-number
invariant-loop-number l = record {
  same : l.self.stack.items ≡ l.initial.self.stack.items;
  marks : length l.self.listed.items ≡ length l.initial.self.listed.items + l._number;
  space : length l.initial.self.listed.items + l.more ≤ vec_capacity l.self.listed;
  stack : length l.initial.self.listed.items + l.more ≤ vec_capacity l.self.stack;
}
