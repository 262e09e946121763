-- New children of forks.
use Rattle.std.specs.Prelude.{◌≡◌, List, [], ◌∷◌, ◌++◌}
use Rattle.sn_net.specs.declared.net.Net.{Net}
use Rattle.sn_net.specs.declared.net.Net.TheViews.{out-Net}
use Rattle.sn_net.specs.declared.routing.Key.{Key}
use Rattle.sn_fork.specs.Facts.{IsChildAt, steps_to}
use Rattle.sn_fork.specs.Fork.{child_seen}
use Rattle.sn_fork.specs.Seen.{ChildSeen, Forking, IsNew}
use Rattle.sn_fork.specs.declared.fork.Child.{Child}
use Rattle.sn_turn.specs.Nodes.{Grown}
use Rattle.sn_turn.specs.Turns.{new_parts, replica_parts}
use Rattle.sn_turn.specs.declared.node.Node.{Node}

-- A child of the key for the fork, which is that part of the network: its streams lead where the child is to stand, and nothing has moved
-- on them. The nodes are those of its parts.
pub record IsMissing (f : Forking) (net : Net) (key : Key) (child : Child) (nodes : List Node) : Type 0 where
  pub named : child.key ≡ key
  pub there : IsChildAt f.run (steps_to f) (child_seen child)
  pub new : IsNew (child_seen child)
  pub grown : Grown [] nodes (replica_parts (out-Net net) f.path)

-- the fork has one child more, from and to which nothing has moved, and its nodes stand behind the others
pub record Unfolded (old new : Forking) (before now : List Node) : Type 0 where
  pub child : ChildSeen
  pub fork : new ≡ record old { children = old.children ++ child ∷ [] }
  pub fresh : IsNew child
  pub grown : Grown before now (new_parts old.run old.path)
