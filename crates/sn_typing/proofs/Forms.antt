-- The outline of each form of network.
use Rattle.std.proofs.Common.{◌≡◌, ℕ, List, map, sym, ap, ◌∙◌}
use Rattle.std.specs.Prelude.{Option, slice_get}
use Rattle.sn_record.specs.LabelSet.{Labels}
use Rattle.sn_tagexpr.specs.declared.expr.TagExpr.{TagExpr}
use Rattle.sn_net.specs.declared.expr.BoxProgram.{BoxProgram}
use Rattle.sn_net.specs.declared.filter.Filter.{Filter}
use Rattle.sn_net.specs.declared.net.Merge.{Merge}
use Rattle.sn_net.specs.declared.net.Net.{Net}
use Rattle.sn_net.specs.declared.net.Net.TheOpen.{Net-F}
use Rattle.sn_net.specs.declared.net.Net.TheFolds.{fold-roll-Net}
use Rattle.sn_net.specs.declared.net.Net.TheVariants.{Box, Filter as FilterLeaf, Sync, Serial, Choice as ChoiceNet, Star as StarNet, Split as SplitNet, rolls-Box, rolls-Filter, rolls-Sync, rolls-Serial, rolls-Choice, rolls-Star, rolls-Split}
use Rattle.sn_typing.specs.Outline.{Outline, Series, Choice, Star, Split, box_outline, filter_outline, cell_outline, branch_of, is_guarded, outline_step, outline}

pub outline-Box : (boxes : List BoxProgram) (place number : ℕ) → outline boxes (Box place number) ≡ box_outline place (slice_get boxes number)
outline-Box boxes place number = ap (outline boxes) (sym (rolls-Box place number)) ∙ fold-roll-Net Outline (outline_step boxes) (Net-F.Box place number)

pub outline-Filter : (boxes : List BoxProgram) (filter : Filter) → outline boxes (FilterLeaf filter) ≡ filter_outline filter
outline-Filter boxes filter = ap (outline boxes) (sym (rolls-Filter filter)) ∙ fold-roll-Net Outline (outline_step boxes) (Net-F.Filter filter)

pub outline-Sync : (boxes : List BoxProgram) (place : ℕ) (patterns : List Labels) → outline boxes (Sync place patterns) ≡ cell_outline place patterns
outline-Sync boxes place patterns = ap (outline boxes) (sym (rolls-Sync place patterns)) ∙ fold-roll-Net Outline (outline_step boxes) (Net-F.Sync place patterns)

pub outline-Serial : (boxes : List BoxProgram) (left right : Net) → outline boxes (Serial left right) ≡ Series (outline boxes left) (outline boxes right)
outline-Serial boxes left right = ap (outline boxes) (sym (rolls-Serial left right)) ∙ fold-roll-Net Outline (outline_step boxes) (Net-F.Serial left right)

pub outline-Choice : (boxes : List BoxProgram) (place : ℕ) (merge : Merge) (branches : List Net) (faces : List (List Labels))
    → outline boxes (ChoiceNet place merge branches faces) ≡ Choice place faces (branch_of (map (outline boxes) branches))
outline-Choice boxes place merge branches faces =
    ap (outline boxes) (sym (rolls-Choice place merge branches faces)) ∙ fold-roll-Net Outline (outline_step boxes) (Net-F.Choice place merge branches faces)

pub outline-Star : (boxes : List BoxProgram) (place : ℕ) (merge : Merge) (body : Net) (exit : Labels) (guard : Option TagExpr)
    → outline boxes (StarNet place merge body exit guard) ≡ Star exit (is_guarded guard) (outline boxes body)
outline-Star boxes place merge body exit guard =
    ap (outline boxes) (sym (rolls-Star place merge body exit guard)) ∙ fold-roll-Net Outline (outline_step boxes) (Net-F.Star place merge body exit guard)

pub outline-Split : (boxes : List BoxProgram) (place : ℕ) (merge : Merge) (body : Net) (id : ℕ)
    → outline boxes (SplitNet place merge body id) ≡ Split place id (outline boxes body)
outline-Split boxes place merge body id = ap (outline boxes) (sym (rolls-Split place merge body id)) ∙ fold-roll-Net Outline (outline_step boxes) (Net-F.Split place merge body id)
