-- What a component of a graph passes on.
use Rattle.std.specs.Prelude.{IsTrue, ℕ, List, IfSome}
use Rattle.std.specs.List.{list_all}
use Rattle.sn_net.specs.Item.{ModelItem}
use Rattle.sn_view.specs.View.{Entry, View}
use Rattle.sn_view.specs.Next.{form_of, local_of, node_at}
use Rattle.sn_view.specs.Routed.{is_going}
use Rattle.sn_node.specs.Local.{Gives, GivesAtMost}

-- what the node at i may pass on next is not stuck
abbrev pub HasRouteAt : ℕ → View → Type 0
HasRouteAt i g = IfSome (node_at i g) (λ n. IfSome (local_of g n) (λ given. IsTrue (list_all is_going given.entries)))

-- it keeps its state, and would pass this on
abbrev pub GivesAt : ℕ → View → List (Entry ModelItem) → Type 0
GivesAt i g entries = IfSome (node_at i g) (λ n. Gives g.run (form_of g n) n entries)

-- it would pass on no more entries than so many
abbrev pub CountsAt : ℕ → View → ℕ → Type 0
CountsAt i g most = IfSome (node_at i g) (λ n. GivesAtMost g.run (form_of g n) n most)
