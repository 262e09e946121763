-- How high networks are: how many forms stand in one another at most.
use Rattle.std.specs.Prelude.{ℕ, suc, max, List, [], ◌∷◌}
use Rattle.sn_net.specs.declared.net.Net.{Net, fold-Net}
use Rattle.sn_net.specs.declared.net.Net.TheOpen.{Net-F}

abbrev pub highest : List ℕ → ℕ
highest [] = 0
highest (n ∷ ns) = max n (highest ns)

-- one form, with the height of each part in its place
abbrev pub height_step : Net-F ℕ → ℕ
height_step (Net-F.Box place number) = 1
height_step (Net-F.Filter filter) = 1
height_step (Net-F.Sync place patterns) = 1
height_step (Net-F.Serial left right) = suc (max left right)
height_step (Net-F.Choice place merge branches faces) = suc (highest branches)
height_step (Net-F.Star place merge body exit guard) = suc body
height_step (Net-F.Split place merge body id) = suc body

abbrev pub height : Net → ℕ
height = fold-Net ℕ height_step
