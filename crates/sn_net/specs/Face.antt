-- The face of a network: the variants by which records are told apart.
use Rattle.std.specs.Prelude.{ℕ, Bool, true, ◌&&◌, ◌↔◌, List, [], ◌∷◌, ◌++◌, length, map as each, slice_get, unwrap_or, nat_lt}
use Rattle.std.specs.List.{Contains, flat_map, fold, list_all}
use Rattle.std.specs.List.Sorted.{IsStrictlySortedBy}
use Rattle.std.specs.Option.{option_map}
use Rattle.std.specs.declared.cmp.Ordering.{Ordering}
use Rattle.std.specs.Ordering.{on}
use Rattle.std.specs.Cmp.Lexicographic.{slice_cmp}
use Rattle.std.specs.FinMap as map
use Rattle.sn_record.specs.declared.label.Label.{Label}
use Rattle.sn_record.specs.Label.{label_cmp}
use Rattle.sn_record.specs.LabelSet.{Labels}
use Rattle.sn_net.specs.declared.expr.BoxProgram.{BoxProgram}
use Rattle.sn_net.specs.declared.net.Net.{Net, fold-Net}
use Rattle.sn_net.specs.declared.net.Net.TheOpen.{Net-F}
use Rattle.sn_net.specs.Filter.{tag}

-- the variant with each label of the list
abbrev pub variant_of : List Label → Labels
variant_of labels = fold (λ variant label. map.insert variant label tt) map.empty labels

-- the input labels of the box with the number, and no label where there is no such box
abbrev pub box_variant : List BoxProgram → ℕ → Labels
box_variant boxes number = unwrap_or (option_map (λ program. variant_of program.input) (slice_get boxes number)) map.empty

-- the variant with the tag added
abbrev pub with_tag : ℕ → Labels → Labels
with_tag id variant = map.insert variant (tag id) tt

-- one level, with the variants of each part in its place
abbrev pub variants_step : List BoxProgram → Net-F (List Labels) → List Labels
variants_step boxes (Net-F.Box place number) = box_variant boxes number ∷ []
variants_step boxes (Net-F.Filter filter) = filter.pattern ∷ []
variants_step boxes (Net-F.Sync place patterns) = patterns
variants_step boxes (Net-F.Serial left right) = left
variants_step boxes (Net-F.Choice place merge branches faces) = flat_map (λ branch. branch) branches
variants_step boxes (Net-F.Star place merge body exit guard) = body ++ exit ∷ []
variants_step boxes (Net-F.Split place merge body id) = each (with_tag id) body

-- the variants of a network from left to right, some of them maybe more than once
abbrev pub variants : List BoxProgram → Net → List Labels
variants boxes = fold-Net (List Labels) (variants_step boxes)

-- the order of variants: that of the lists of their labels, in which a list comes before a longer one that begins with it
abbrev pub variant_cmp : Labels → Labels → Ordering
variant_cmp = on map.keys (slice_cmp label_cmp)

-- the variants in ascending order, each once: the keys of the map with nothing at each of them
abbrev pub ascending : List Labels → List Labels
ascending sets = map.keys (map.from_entries {X = Unit {0}} {R = variant_cmp} (each (λ variant. (variant, tt)) sets))

-- the face of a network: its variants in ascending order, each once
abbrev pub face : List BoxProgram → Net → List Labels
face boxes net = ascending (variants boxes net)

-- the sets are the variants of the network, in ascending order and each once
pub record IsFace (boxes : List BoxProgram) (net : Net) (sets : List Labels) : Type 0 where
  pub ascending : IsStrictlySortedBy variant_cmp sets
  pub same : (variant : Labels) → Contains sets variant ↔ Contains (variants boxes net) variant

-- one level, with whether each part names boxes below the count alone in its place
abbrev pub numbered_step : ℕ → Net-F Bool → Bool
numbered_step count (Net-F.Box place number) = nat_lt number count
numbered_step count (Net-F.Filter filter) = true
numbered_step count (Net-F.Sync place patterns) = true
numbered_step count (Net-F.Serial left right) = left && right
numbered_step count (Net-F.Choice place merge branches faces) = list_all (λ branch. branch) branches
numbered_step count (Net-F.Star place merge body exit guard) = body
numbered_step count (Net-F.Split place merge body id) = body

-- each box in the network is one of the boxes
abbrev pub is_numbered : List BoxProgram → Net → Bool
is_numbered boxes = fold-Net Bool (numbered_step (length boxes))
