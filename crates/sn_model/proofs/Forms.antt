-- The tree of each form of network.
use Rattle.std.proofs.Common.{◌≡◌, ℕ, List, map, sym, ap, ◌∙◌}
use Rattle.std.specs.Prelude.{Option}
use Rattle.sn_record.specs.LabelSet.{Labels}
use Rattle.sn_tagexpr.specs.declared.expr.TagExpr.{TagExpr}
use Rattle.sn_streams.specs.Trees.{Series, Component}
use Rattle.sn_net.specs.declared.filter.Filter.{Filter}
use Rattle.sn_net.specs.declared.net.Merge.{Merge}
use Rattle.sn_net.specs.declared.net.Net.{Net}
use Rattle.sn_net.specs.declared.net.Net.TheOpen.{Net-F}
use Rattle.sn_net.specs.declared.net.Net.TheFolds.{fold-roll-Net}
use Rattle.sn_net.specs.declared.net.Net.TheVariants.{Box, Filter as FilterLeaf, Sync, Serial, Choice, Star, Split, rolls-Box, rolls-Filter, rolls-Sync, rolls-Serial, rolls-Choice, rolls-Star, rolls-Split}
use Rattle.sn_net.specs.Cell.{new_cell}
use Rattle.sn_net.specs.Dispatchers.{Network, choice, level, split}
use Rattle.sn_model.specs.Components.{alone, box_item, cell, filter_item}
use Rattle.sn_model.specs.Meaning.{Setting, tree, tree_step}

pub tree-Box : (s : Setting) (place number : ℕ) → tree s (Box place number) ≡ alone (box_item s.boxes s.fuel place number)
tree-Box s place number = ap (tree s) (sym (rolls-Box place number)) ∙ fold-roll-Net Network (tree_step s) (Net-F.Box place number)

pub tree-Filter : (s : Setting) (filter : Filter) → tree s (FilterLeaf filter) ≡ alone (filter_item filter)
tree-Filter s filter = ap (tree s) (sym (rolls-Filter filter)) ∙ fold-roll-Net Network (tree_step s) (Net-F.Filter filter)

pub tree-Sync : (s : Setting) (place : ℕ) (patterns : List Labels) → tree s (Sync place patterns) ≡ Component (cell place patterns) (new_cell patterns)
tree-Sync s place patterns = ap (tree s) (sym (rolls-Sync place patterns)) ∙ fold-roll-Net Network (tree_step s) (Net-F.Sync place patterns)

pub tree-Serial : (s : Setting) (left right : Net) → tree s (Serial left right) ≡ Series (tree s left) (tree s right)
tree-Serial s left right = ap (tree s) (sym (rolls-Serial left right)) ∙ fold-roll-Net Network (tree_step s) (Net-F.Serial left right)

pub tree-Choice : (s : Setting) (place : ℕ) (merge : Merge) (branches : List Net) (faces : List (List Labels))
    → tree s (Choice place merge branches faces) ≡ choice place merge faces (map (tree s) branches)
tree-Choice s place merge branches faces =
    ap (tree s) (sym (rolls-Choice place merge branches faces)) ∙ fold-roll-Net Network (tree_step s) (Net-F.Choice place merge branches faces)

pub tree-Star : (s : Setting) (place : ℕ) (merge : Merge) (body : Net) (exit : Labels) (guard : Option TagExpr)
    → tree s (Star place merge body exit guard) ≡ level place merge exit guard (tree s body) s.depth
tree-Star s place merge body exit guard =
    ap (tree s) (sym (rolls-Star place merge body exit guard)) ∙ fold-roll-Net Network (tree_step s) (Net-F.Star place merge body exit guard)

pub tree-Split : (s : Setting) (place : ℕ) (merge : Merge) (body : Net) (id : ℕ) → tree s (Split place merge body id) ≡ split place merge id (tree s body)
tree-Split s place merge body id = ap (tree s) (sym (rolls-Split place merge body id)) ∙ fold-roll-Net Network (tree_step s) (Net-F.Split place merge body id)
