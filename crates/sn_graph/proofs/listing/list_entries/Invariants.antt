use Rattle.std.proofs.Common.{◌≡◌, ℕ, suc, ◌<◌, true, length, map}
use Rattle.std.specs.Prelude.{Some, slice_get}
use Rattle.sn_view.specs.View as view
use Rattle.sn_node.specs.Agenda.{is_listed}
use Rattle.sn_node.specs.Child.{child_of}
use Rattle.sn_graph.proofs.listing.list_entries.Given as goal

abbrev pub invariant-loop-c : goal.invariant-loop-c
invariant-loop-c l = record {
  first : (c : ℕ) (child : view.Child) → suc c < l.c → slice_get (map child_of l.children.list.items) (suc c) ≡ Some child → child.entry < length l.agenda.listed.items → is_listed child.entry l.agenda.stack.items ≡ true;
  others : (j : ℕ) → is_listed j l.initial.agenda.stack.items ≡ true → is_listed j l.agenda.stack.items ≡ true;
  bound : length l.agenda.listed.items ≡ length l.initial.agenda.listed.items;
}
