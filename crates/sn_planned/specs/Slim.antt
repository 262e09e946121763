-- Networks in series, without parts that change nothing.
use Rattle.std.specs.Prelude.{◌==◌, ◌&&◌, Bool, false, if◌then◌else◌, List, [], ◌∷◌, length, map, Option, None, Some}
use Rattle.std.specs.FinMap as finite
use Rattle.sn_net.specs.declared.filter.Filter.{Filter as FilterForm}
use Rattle.sn_net.specs.declared.filter.Template.{Template}
use Rattle.sn_net.specs.declared.net.Net.{Net, fold-Net}
use Rattle.sn_net.specs.declared.net.Net.TheOpen.{Net-F}
use Rattle.sn_net.specs.declared.net.Net.TheVariants.{Box, Filter, Sync, Serial, Choice, Star, Split}

-- one template alone, which sets nothing
abbrev pub sets_nothing : List Template → Bool
sets_nothing [] = false
sets_nothing (template ∷ []) = length template.parts == 0
sets_nothing (template ∷ (other ∷ templates)) = false

-- the filter takes any record without binding tags, and gives it back as it is
abbrev pub gives_back : FilterForm → Bool
gives_back filter = ((finite.len filter.pattern == 0) && (length filter.arms == 0)) && sets_nothing filter.templates

-- What is left of a network once the identities in its chain are dropped: where the chain begins with it, the first part stays; where it
-- stands behind another part nothing may be left.
pub record Slim : Type 0 where
  pub first : Net
  pub behind : Option Net

-- a network before what is left of another
abbrev pub before : Net → Option Net → Net
before net None = net
before net (Some next) = Serial net next

-- what is left of one, before what is left of another
abbrev pub both : Option Net → Option Net → Option Net
both None next = next
both (Some net) next = Some (before net next)

abbrev pub alone : Net → Slim
alone net = record { first = net; behind = Some net }

abbrev pub unless_identity : FilterForm → Option Net
unless_identity filter = if gives_back filter then None else Some (Filter filter)

abbrev pub begun : Slim → Net
begun slim = slim.first

-- one form, with what is left of each part in its place: networks in series stay grouped as they were
abbrev pub slim_step : Net-F Slim → Slim
slim_step (Net-F.Box place number) = alone (Box place number)
slim_step (Net-F.Filter filter) = record { first = Filter filter; behind = unless_identity filter }
slim_step (Net-F.Sync place patterns) = alone (Sync place patterns)
slim_step (Net-F.Serial left right) = record { first = before left.first right.behind; behind = both left.behind right.behind }
slim_step (Net-F.Choice place merge branches faces) = alone (Choice place merge (map begun branches) faces)
slim_step (Net-F.Star place merge body exit guard) = alone (Star place merge body.first exit guard)
slim_step (Net-F.Split place merge body id) = alone (Split place merge body.first id)

abbrev pub slim : Net → Slim
slim = fold-Net Slim slim_step

-- without identities behind the first part of a chain, at any depth
abbrev pub slimmed : Net → Net
slimmed net = (slim net).first
