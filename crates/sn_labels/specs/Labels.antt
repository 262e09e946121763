-- The labels of a run: those that its network, its boxes and its items name.
use Rattle.std.specs.Prelude.{Bool, false, ◌||◌, List}
use Rattle.std.specs.List.{list_any}
use Rattle.std.specs.Ordering.{eq_by_cmp}
use Rattle.std.specs.FinMap.{contains_key}
use Rattle.sn_record.specs.declared.item.Item.{Item}
use Rattle.sn_record.specs.declared.item.Item.TheVariants as item
use Rattle.sn_record.specs.declared.label.Label.{Label}
use Rattle.sn_record.specs.Label.{label_cmp}
use Rattle.sn_record.specs.LabelSet.{Labels, contains}
use Rattle.sn_net.specs.declared.expr.BoxProgram.{BoxProgram}
use Rattle.sn_net.specs.declared.filter.Filter.{Filter}
use Rattle.sn_net.specs.declared.filter.Template.{Template}
use Rattle.sn_net.specs.declared.net.Net.{Net, fold-Net}
use Rattle.sn_net.specs.declared.net.Net.TheOpen.{Net-F}
use Rattle.sn_net.specs.Filter.{every_template, tag, target}
use Rattle.sn_model.specs.declared.run.Run.{Run}
use Rattle.sn_model.specs.Run.{boxes_of, items_of, net_of}

-- whether a label is this one
abbrev pub is_label : Label → Label → Bool
is_label label l = eq_by_cmp label_cmp l label

-- whether it is among these, or in one of these sets
abbrev pub is_among : List Label → Label → Bool
is_among labels l = list_any (λ label. is_label label l) labels

abbrev pub is_in_some : List Labels → Label → Bool
is_in_some sets l = list_any (λ set. contains set l) sets

-- a template has the labels that its parts set
abbrev pub is_set_by : Template → Label → Bool
is_set_by template l = list_any (λ part. is_label (target part) l) template.parts

-- a filter has those of its pattern and of all its templates
abbrev pub is_of_filter : Filter → Label → Bool
is_of_filter filter l = contains filter.pattern l || list_any (λ template. is_set_by template l) (every_template filter)

-- One level, with whether each part has the label in its place. The labels of a box stand in its program, and the tags of a guard in
-- the exit pattern.
abbrev pub is_of_level : Label → Net-F Bool → Bool
is_of_level l (Net-F.Box place number) = false
is_of_level l (Net-F.Filter filter) = is_of_filter filter l
is_of_level l (Net-F.Sync place patterns) = is_in_some patterns l
is_of_level l (Net-F.Serial left right) = left || right
is_of_level l (Net-F.Choice place merge branches faces) = list_any (λ branch. branch) branches
is_of_level l (Net-F.Star place merge body exit guard) = body || contains exit l
is_of_level l (Net-F.Split place merge body id) = body || is_label (tag id) l

-- a network has those of all its parts
abbrev pub is_of_net : Net → Label → Bool
is_of_net net l = fold-Net Bool (is_of_level l) net

-- a box has those that it takes, and those that it may emit
abbrev pub is_of_box : BoxProgram → Label → Bool
is_of_box program l = is_among program.input l || list_any (λ labels. is_among labels l) program.outputs

abbrev pub is_of_item : Item → Label → Bool
is_of_item (item.Rec r) l = contains_key r l
is_of_item (item.Fault fault) l = false

-- A LABEL OF THE RUN
abbrev pub is_label_of : Run → Label → Bool
is_label_of run l =
    is_of_net (net_of run) l || (list_any (λ program. is_of_box program l) (boxes_of run) || list_any (λ item. is_of_item item l) (items_of run))
