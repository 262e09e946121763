-- What steps reach in a network, as it is declared: spots, and the spots one step behind each.
use Rattle.std.specs.Prelude.{ℕ, suc, List, [], ◌∷◌, slice_get, Option, None, Some}
use Rattle.std.specs.Option.{option_and_then, option_map}
use Rattle.sn_record.specs.LabelSet.{Labels}
use Rattle.sn_tagexpr.specs.declared.expr.TagExpr.{TagExpr}
use Rattle.sn_streams.specs.Keys.{Branch, Inside, Value}
use Rattle.sn_histories.specs.Sites.{Step, Left, Right, Into}
use Rattle.sn_net.specs.declared.net.Merge.{Merge}
use Rattle.sn_net.specs.declared.net.Net.{Net}
use Rattle.sn_net.specs.declared.net.Net.TheOpen.{Net-F}
use Rattle.sn_net.specs.declared.net.Net.TheViews.{out-Net}
use Rattle.sn_net_histories.specs.Histories.{Spot, Whole, Level, Replica}

-- a step from a level of a star leads inside, if it has replicas left
abbrev pub from_level : ℕ → Merge → Labels → Option TagExpr → Net → ℕ → Step → Option Spot
from_level place m exit guard body (suc left) (Into Inside) = Some (Replica place m exit guard body left)
from_level place m exit guard body left step = None

-- a step from a network of each form, where a star may have so many replicas
abbrev pub from_form : ℕ → Net-F Net → Step → Option Spot
from_form depth (Net-F.Star place merge body exit guard) step = from_level place merge exit guard body depth step
from_form depth (Net-F.Serial left right) Left = Some (Whole left)
from_form depth (Net-F.Serial left right) Right = Some (Whole right)
from_form depth (Net-F.Choice place merge branches faces) (Into (Branch i)) = option_map Whole (slice_get branches i)
from_form depth (Net-F.Split place merge body id) (Into (Value n)) = Some (Whole body)
from_form depth net step = None

-- what one step reaches, if it leads somewhere
abbrev pub spot_behind : ℕ → Spot → Step → Option Spot
spot_behind depth (Whole net) step = from_form depth (out-Net net) step
spot_behind depth (Level place m exit guard body left) step = from_level place m exit guard body left step
spot_behind depth (Replica place m exit guard body left) Left = Some (Whole body)
spot_behind depth (Replica place m exit guard body left) Right = Some (Level place m exit guard body left)
spot_behind depth (Replica place m exit guard body left) (Into k) = None

-- what steps reach, if they lead somewhere
abbrev pub spot_at : ℕ → Spot → List Step → Option Spot
spot_at depth spot [] = Some spot
spot_at depth spot (step ∷ steps) = option_and_then (λ next. spot_at depth next steps) (spot_behind depth spot step)
