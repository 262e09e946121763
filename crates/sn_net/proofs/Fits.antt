-- What a network gives that fits its boxes: boxes that there are, closed filters, and parts that fit.
use Rattle.std.proofs.Common.{ℕ, ◌<◌, List, length, sym, subst}
use Rattle.std.specs.List.{All}
use Rattle.std.specs.Coded.{le_prop}
use Rattle.std.proofs.Props.{props}
use mathlib.Core.Logic.{∥∥₁_elim, ∥∥₁_map}
use Rattle.sn_net.specs.declared.expr.BoxProgram.{BoxProgram}
use Rattle.sn_net.specs.declared.filter.Filter.{Filter}
use Rattle.sn_net.specs.declared.net.Net.{Net}
use Rattle.sn_net.specs.declared.net.Net.TheOpen.{Net-F}
use Rattle.sn_net.specs.declared.net.Net.TheVariants.{Box, Filter as FilterLeaf, rolls-Box, rolls-Filter}
use Rattle.sn_net.specs.declared.net.Net.TheViews.{roll-Net}
use Rattle.sn_net.specs.Filter.{IsClosed}
use Rattle.sn_net.specs.WellFormed.{FitsBoxes, IsWellFormed}
use Rattle.sn_net.proofs.Sound.{level_sound, parts, parts_formed}

-- a filter is closed in one way alone
closed_once : (filter : Filter) → IsProp (IsClosed filter)
closed_once filter = hlevel props

module _ (boxes : List BoxProgram) where
  pub box_there : (place number : ℕ) → FitsBoxes boxes (Box place number) → number < length boxes
  box_there place number fits =
      ∥∥₁_elim fits le_prop (λ formed. level_sound boxes (Net-F.Box place number) (subst (IsWellFormed boxes) (sym (rolls-Box place number)) formed))

  pub filter_closed : (f : Filter) → FitsBoxes boxes (FilterLeaf f) → IsClosed f
  filter_closed f fits =
      ∥∥₁_elim fits (closed_once f) (λ formed. level_sound boxes (Net-F.Filter f) (subst (IsWellFormed boxes) (sym (rolls-Filter f)) formed))

  pub parts_fit : (x : Net-F Net) → FitsBoxes boxes (roll-Net x) → All (FitsBoxes boxes) (parts x)
  parts_fit x fits = λ k d below. ∥∥₁_map fits (λ formed. parts_formed boxes x formed k d below)
