-- What a network may answer, and what it answers on one thread.
use Rattle.std.specs.Prelude.{◌≡◌, ℕ, false, List, [], ◌∷◌}
use Rattle.sn_record.specs.Record.{Entries}
use Rattle.sn_streams.specs.Forks.{Relation}
use Rattle.sn_streams.specs.Keys.{key_eq}
use Rattle.sn_streams.specs.Occurring.{AllowsOccurring}
use Rattle.sn_streams.specs.Segments.{Segments, first_segment}
use Rattle.sn_streams.specs.Trees.{Series, Component, Allows, one as one_of_tree}
use Rattle.sn_net.specs.declared.expr.BoxProgram.{BoxProgram}
use Rattle.sn_net.specs.declared.net.Net.{Net, fold-Net}
use Rattle.sn_net.specs.declared.net.Net.TheOpen.{Net-F}
use Rattle.sn_net.specs.declared.routing.Key.{Key}
use Rattle.sn_net.specs.Cell.{new_cell}
use Rattle.sn_net.specs.Dispatchers.{Network, choice, level, split, stream_key}
use Rattle.sn_net.specs.Item.{ModelItem}
use Rattle.sn_net.specs.Route.{of_record}
use Rattle.sn_model.specs.Components.{filter_item, box_item, alone, cell}

-- What a network is run with: the boxes that it calls, the fuel of each call, and how many replicas a star may have.
pub record Setting : Type 0 where
  pub boxes : List BoxProgram
  pub fuel : ℕ
  pub depth : ℕ

-- one form, with the tree of each part in its place
abbrev pub tree_step : Setting → Net-F Network → Network
tree_step s (Net-F.Box place number) = alone (box_item s.boxes s.fuel place number)
tree_step s (Net-F.Filter filter) = alone (filter_item filter)
tree_step s (Net-F.Sync place patterns) = Component (cell place patterns) (new_cell patterns)
tree_step s (Net-F.Serial left right) = Series left right
tree_step s (Net-F.Choice place merge branches faces) = choice place merge faces branches
tree_step s (Net-F.Star place merge body exit guard) = level place merge exit guard body s.depth
tree_step s (Net-F.Split place merge body id) = split place merge id body

-- the tree of a network: its components, with all replicas that it may ever have
abbrev pub tree : Setting → Net → Network
tree s = fold-Net Network (tree_step s)

-- The merge relation: which streams the network may answer to a stream, whatever the schedule.
abbrev pub MayAnswer : Setting → Net → Relation ModelItem
MayAnswer s net = Allows (tree s net)

-- the same of plain lists, which are streams of one segment
abbrev pub MayAnswerList : Setting → Net → List ModelItem → List ModelItem → Type 0
MayAnswerList s net xs ys = MayAnswer s net (xs ∷ []) (ys ∷ [])

-- The same where a fork is said to have children for the keys that occur alone.
abbrev pub MayAnswerOccurring : Setting → Net → Relation ModelItem
MayAnswerOccurring s net = AllowsOccurring (tree s net)

-- The one-thread meaning: what the network answers where each merge takes answers in order.
abbrev pub one : Setting → Net → Segments ModelItem → Segments ModelItem
one s net = one_of_tree (tree s net)

-- the same of a plain list
abbrev pub one_list : Setting → Net → List ModelItem → List ModelItem
one_list s net xs = first_segment (one s net (xs ∷ []))

-- two items that go to different children of a dispatcher, or one to a child and the other past all
abbrev pub GoApart : (Entries → Key) → ModelItem → ModelItem → Type 0
GoApart key_of x y = key_eq (stream_key (of_record key_of x)) (stream_key (of_record key_of y)) ≡ false
