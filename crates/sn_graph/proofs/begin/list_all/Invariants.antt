use Rattle.std.proofs.Common.{◌≡◌, ℕ, ◌<◌, ◌≤◌, true, length}
use Rattle.sn_node.specs.Agenda.{is_listed}
use Rattle.sn_graph.proofs.begin.list_all.Given as goal

abbrev pub invariant-loop-i : goal.invariant-loop-i
invariant-loop-i l = record {
  first : (j : ℕ) → j < l.i → is_listed j l.agenda.stack.items ≡ true;
  room : l.bound ≤ length l.agenda.listed.items;
}
