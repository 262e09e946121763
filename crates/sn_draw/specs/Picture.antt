-- The nodes of a picture, and how many a network's has.
use Rattle.std.specs.Prelude.{ℕ, ◌+◌, Bool, true, false, List, count_by, sum}
use Rattle.sn_net.specs.declared.net.Net.{Net, fold-Net}
use Rattle.sn_net.specs.declared.net.Net.TheOpen.{Net-F}
use Rattle.sn_draw.specs.declared.statement.Statement.{Statement}
use Rattle.sn_draw.specs.declared.statement.Statement.TheVariants.{Open, Close, Node, Edge}

abbrev pub is_node : Statement → Bool
is_node (Open number label) = false
is_node Close = false
is_node (Node number shape label) = true
is_node (Edge from to flow label) = false

abbrev pub count_nodes : List Statement → ℕ
count_nodes = count_by is_node

-- how many one level of a network has, with those of each part in its place
abbrev pub drawn_step : Net-F ℕ → ℕ
drawn_step (Net-F.Box place number) = 1
drawn_step (Net-F.Filter filter) = 1
drawn_step (Net-F.Sync place patterns) = 1
drawn_step (Net-F.Serial left right) = left + right
drawn_step (Net-F.Choice place merge branches faces) = 2 + sum branches
drawn_step (Net-F.Star place merge body exit guard) = 2 + body
drawn_step (Net-F.Split place merge body tag) = 2 + body

-- one for each box, filter and cell; for each choice, star and split one where records part and one where they merge
abbrev pub drawn : Net → ℕ
drawn = fold-Net ℕ drawn_step
