-- Which nodes a graph has listed, to find what may happen next.
use Rattle.std.specs.Prelude.{◌≡◌, ◌≤◌, ◌<◌, ◌&&◌, ℕ, Bool, true, false, List, Some, length}
use Rattle.sn_view.specs.Next.{IsEnabled, enabled, if_node, node_at, plain_entry}
use Rattle.sn_view.specs.Touched.{happens_at, is_touched}
use Rattle.sn_view.specs.View.{Finish, Happening, Local, Merge, Route, Start, Take, Emit, Unfold, View, first_of}
use Rattle.sn_node.specs.Agenda.{is_listed}
use Rattle.sn_node.specs.States.{is_freely}
use Rattle.sn_node.specs.declared.agenda.Agenda.{Agenda}
use Rattle.sn_graph.specs.Arena.{view_of}
use Rattle.sn_graph.specs.Ways.{is_mark}
use Rattle.sn_graph.specs.declared.arena.Arena.{Arena}

-- each node at which something may happen, but for answers to calls, is listed
abbrev pub AreListed : View → List ℕ → Type 0
AreListed g listed = (e : Happening) (i : ℕ) → happens_at e ≡ Some i → enabled g e ≡ true → is_listed i listed ≡ true

-- so it is in a graph's agenda, which has room for all nodes
pub record IsListed (arena : Arena) : Type 0 where
  pub each : AreListed (view_of arena) arena.agenda.stack.items
  pub room : length arena.nodes.items ≤ length arena.agenda.listed.items

-- the graph with another agenda
abbrev pub with_agenda : Agenda → Arena → Arena
with_agenda agenda arena = record arena { agenda = agenda }

-- More is listed, and all else is as it was.
pub record OnlyLists (old new : Arena) : Type 0 where
  pub same : new ≡ with_agenda new.agenda old
  pub listed : (j : ℕ) → is_listed j old.agenda.stack.items ≡ true → is_listed j new.agenda.stack.items ≡ true
  pub bound : length new.agenda.listed.items ≡ length old.agenda.listed.items

-- the node is listed, if the agenda has room for it
abbrev pub HasListed : ℕ → Arena → Type 0
HasListed j arena = j < length arena.agenda.listed.items → is_listed j arena.agenda.stack.items ≡ true

-- the nodes that the event writes to are listed, if it may happen
abbrev pub IsNoted : Happening → Arena → Type 0
IsNoted e arena = IsEnabled (view_of arena) e → (j : ℕ) → is_touched (view_of arena) e j ≡ true → HasListed j arena

-- a mark is first at the free dispatcher at i, and goes to all children
abbrev pub broadcasts_at : ℕ → View → Bool
broadcasts_at i g = if_node (λ n. is_freely n.state && is_mark (plain_entry (first_of n.waiting))) false (node_at i g)

-- what is listed stays, and there is room for all nodes if there was
pub record KeepsStack (old new : Arena) : Type 0 where
  pub stack : new.agenda.stack.items ≡ old.agenda.stack.items
  pub room : length old.nodes.items ≤ length old.agenda.listed.items → length new.nodes.items ≤ length new.agenda.listed.items

-- events leave the agenda alone. Unfold alone makes room in it.
abbrev pub LeavesAgenda : Happening → Arena → Arena → Type 0
LeavesAgenda Take old new = new.agenda ≡ old.agenda
LeavesAgenda (Start i) old new = new.agenda ≡ old.agenda
LeavesAgenda (Finish call number place given) old new = new.agenda ≡ old.agenda
LeavesAgenda (Local i) old new = new.agenda ≡ old.agenda
LeavesAgenda (Route i) old new = new.agenda ≡ old.agenda
LeavesAgenda (Unfold i) old new = KeepsStack old new
LeavesAgenda (Merge i c) old new = new.agenda ≡ old.agenda
LeavesAgenda Emit old new = new.agenda ≡ old.agenda
