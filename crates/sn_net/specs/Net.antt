-- Networks, by their nodes and by their merges.
use Rattle.std.specs.Prelude.{ℕ, ◌+◌, Bool, true, false, ◌&&◌, sum}
use Rattle.std.specs.List.{list_all}
use Rattle.sn_net.specs.declared.net.Merge.{Merge}
use Rattle.sn_net.specs.declared.net.Merge.TheVariants.{Free, Det}
use Rattle.sn_net.specs.declared.net.Net.{Net, fold-Net}
use Rattle.sn_net.specs.declared.net.Net.TheOpen.{Net-F}

-- how many one level has, with those of each part in its place
abbrev pub nodes_step : Net-F ℕ → ℕ
nodes_step (Net-F.Box place number) = 1
nodes_step (Net-F.Filter filter) = 1
nodes_step (Net-F.Sync place patterns) = 1
nodes_step (Net-F.Serial left right) = 1 + left + right
nodes_step (Net-F.Choice place merge branches faces) = 1 + sum branches
nodes_step (Net-F.Star place merge body exit guard) = 1 + body
nodes_step (Net-F.Split place merge body tag) = 1 + body

-- the nodes of a network: each form in it counts one
abbrev pub nodes : Net → ℕ
nodes = fold-Net ℕ nodes_step

-- the merge takes answers in the order of the records that caused them
abbrev pub is_in_order : Merge → Bool
is_in_order Free = false
is_in_order Det = true

-- one level, with whether all of each part are deterministic in its place
abbrev pub deterministic_step : Net-F Bool → Bool
deterministic_step (Net-F.Box place number) = true
deterministic_step (Net-F.Filter filter) = true
deterministic_step (Net-F.Sync place patterns) = true
deterministic_step (Net-F.Serial left right) = left && right
deterministic_step (Net-F.Choice place merge branches faces) = is_in_order merge && list_all (λ branch. branch) branches
deterministic_step (Net-F.Star place merge body exit guard) = is_in_order merge && body
deterministic_step (Net-F.Split place merge body tag) = is_in_order merge && body

-- each choice, star and split in it merges in order
abbrev pub all_deterministic : Net → Bool
all_deterministic = fold-Net Bool deterministic_step
