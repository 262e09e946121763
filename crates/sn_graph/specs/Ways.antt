-- Where the first entry of a dispatcher goes.
use Rattle.std.specs.Prelude.{◌≡◌, ℕ, suc, Bool, true, false, IfSome, Option, IsTrue, Some, slice_get}
use Rattle.sn_streams.specs.Keys as key
use Rattle.sn_net.specs.Dispatchers.{stream_key}
use Rattle.sn_net.specs.Item.{ModelItem}
use Rattle.sn_view.specs.Next.{child_of, if_node, is_fork, node_at, plain_entry, routing_of}
use Rattle.sn_view.specs.Routed.{has_route}
use Rattle.sn_view.specs.View.{Child, Entry, Mark, Node, View, first_of}
use Rattle.sn_node.specs.Routes.{GoesBy}
use Rattle.sn_graph.specs.declared.route.Way.{Way}

-- the first entry of the dispatcher at i goes this way
pub record Goes (g : View) (i : ℕ) (way : Way) : Type 0 where
  pub node : Node
  pub there : node_at i g ≡ Some node
  pub goes : GoesBy (routing_of g node) way.key
  pub fork : is_fork node.state ≡ true
  pub number : child_of node.children (stream_key way.key) ≡ Some way.child
  pub child : Child
  pub at : slice_get node.children way.child ≡ Some child
  pub entry : child.entry ≡ way.entry

-- the first entry of the node at i has a route, if the node is a dispatcher
abbrev pub IsRoutedAt : ℕ → View → Type 0
IsRoutedAt i g = IfSome (node_at i g) (λ n. IfSome (routing_of g n) (λ r. IsTrue (has_route r.router r.entry)))

-- what passes the children of a dispatcher at i by goes to child 0
abbrev pub OwnIsFirst : ℕ → View → Type 0
OwnIsFirst i g = (n : Node) → node_at i g ≡ Some n → is_fork n.state ≡ true → child_of n.children key.Own ≡ Some 0

-- the items of no child of i but child 0 come in at i itself
abbrev pub ComesInElsewhere : ℕ → View → Type 0
ComesInElsewhere i g = (n : Node) (c : ℕ) (child : Child) → node_at i g ≡ Some n → slice_get n.children (suc c) ≡ Some child → (child.entry ≡ i) → ⊥

-- no mark is the first entry of the node at i
abbrev pub HasNoMark : ℕ → View → Type 0
HasNoMark i g = (n : Node) → node_at i g ≡ Some n → plain_entry (first_of n.waiting) ≡ Some Mark → ⊥

-- a mark is
abbrev pub is_mark : Option (Entry ModelItem) → Bool
is_mark (Some Mark) = true
is_mark other = false

abbrev pub is_mark_at : ℕ → View → Bool
is_mark_at i g = if_node (λ n. is_mark (plain_entry (first_of n.waiting))) false (node_at i g)
