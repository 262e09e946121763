-- Children that are there.
use Rattle.std.specs.Prelude.{◌≡◌, ℕ, List, Some, slice_get}
use Rattle.sn_streams.specs.Keys as key
use Rattle.sn_view.specs.View.{Child, Node, View}

-- the first child is what passes the others by
abbrev pub HasOwnFirst : List Child → Type 0
HasOwnFirst children = (child : Child) × (slice_get children 0 ≡ Some child) × (child.key ≡ key.Own)

-- the node of this number has a child of this number
pub record HasChild (g : View) (j c : ℕ) : Type 0 where
  pub node : Node
  pub there : slice_get g.nodes j ≡ Some node
  pub child : Child
  pub is_child : slice_get node.children c ≡ Some child
