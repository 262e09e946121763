-- Networks that route items.
use Rattle.std.specs.Prelude.{◌≤◌, IsTrue, IfSome, length}
use Rattle.sn_net.specs.declared.net.Net.{Net}
use Rattle.sn_net.specs.declared.net.Net.TheOpen.{Net-F}
use Rattle.sn_net.specs.Filter.{is_over}
use Rattle.sn_net.specs.WellFormed.{most_branches}

-- a choice with faces for at most 64 branches, a star whose guard, if there is one, names tags of the exit alone, or a split
abbrev pub IsDispatcher : Net-F Net → Type 0
IsDispatcher (Net-F.Choice place merge branches faces) = length faces ≤ most_branches
IsDispatcher (Net-F.Star place merge body exit guard) = IfSome guard (λ test. IsTrue (is_over exit test))
IsDispatcher (Net-F.Split place merge body id) = Unit {0}
IsDispatcher other = ⊥
