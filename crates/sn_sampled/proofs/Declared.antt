-- What the built-in source declares, and that nothing of it is refused.
use Rattle.std.proofs.Common.{◌≡◌, ℕ, true, false, pos, List, [], ◌∷◌, map as each, codes, Option, Some, None, refl, ap, ◌∙◌}
use Rattle.sn_ast.specs.declared.box_expr.BForm.TheVariants as box_form
use Rattle.sn_ast.specs.declared.network.NetExpr.{NetExpr}
use Rattle.sn_ast.specs.declared.tag_expr.Operator.TheVariants.{Add, Sub, Eq}
use Rattle.sn_ast.specs.declared.tag_expr.TExpr.{TExpr}
use Rattle.sn_box_scope.specs.Boxes.{box_at, box_required, tuple_required}
use Rattle.sn_box_scope.specs.Expressions as box_exprs
use Rattle.sn_box_scope.specs.Variables.{label_variable}
use Rattle.sn_label_scope.specs.Labels.{variant_at, variant_required}
use Rattle.sn_label_scope.specs.declared.refusal.Reason.TheVariants.{Unknown, GuardTag}
use Rattle.sn_label_scope.specs.declared.refusal.Refusal.{Refusal}
use Rattle.sn_net.specs.declared.net.Merge.TheVariants.{Det}
use Rattle.sn_net.specs.Filter.{tag}
use Rattle.sn_net.specs.declared.filter.Filter.{Filter}
use Rattle.sn_record.specs.LabelSet.{Labels}
use Rattle.sn_record.specs.declared.label.Label.{Label}
use Rattle.sn_roundtrip.proofs.Boxes as box_folds
use Rattle.sn_roundtrip.proofs.Declarations as decl_folds
use Rattle.sn_roundtrip.proofs.Networks as net_folds
use Rattle.sn_scope.specs.Declarations.{start, after, decl_step, net_step, declarations_of, net_at, with_net}
use Rattle.sn_scope.specs.Filters as filters
use Rattle.sn_scope.specs.Networks.{network_at, network_step, network_required, required_step, guard_at}
use Rattle.sn_scope.specs.Tags.{tags_required}
use Rattle.sn_scope.specs.declared.declarations.Declarations.{Declarations}
use Rattle.sn_scope.specs.declared.network.Component.{Component}
use Rattle.sn_scope.specs.declared.network.Component.TheVariants as component
use Rattle.sn_scope.specs.declared.network.Network.{Network}
use Rattle.sn_scope.specs.declared.network.Network.TheVariants.{Made}
use Rattle.sn_scope.specs.declared.scopes.Meaning.TheVariants as meaning
use Rattle.sn_scope.specs.declared.scopes.Scopes.{Scopes}
use Rattle.sn_tagexpr.specs.declared.expr.TagExpr.{TagExpr}
use Rattle.sn_sampled.proofs.Tree.{named, tag_at, twice, twice_box, twice_input, twice_output, twice_body, sum_of_v, main, main_type, main_network, input_variant, output_variant, twice_call, start_filter, start_pattern, start_template, step_filter, step_pattern, step_template, step_star, step_split, exit_pattern, one_less, sum_of_s, at_zero, source_tree}
use Rattle.sn_sampled.proofs.Entered.{the_names}
use Rattle.sn_sampled.proofs.Labels.{Holds, holds_all}
use Rattle.sn_sampled.proofs.Passed.{Passes, labels_pass, number_passes, tag_passes, op_passes, same_passes, template_passes, filter_passes}

-- the labels by their numbers
abbrev pub label_k : Label
label_k = tag 2

abbrev pub label_n : Label
label_n = tag 3

abbrev pub label_s : Label
label_s = tag 4

-- those of the patterns
abbrev pattern_list : List Label
pattern_list = label_n ∷ []

abbrev step_list : List Label
step_list = label_n ∷ label_s ∷ []

-- the box
v_passes : (at : ℕ) → Passes (box_exprs.expr_required twice_box (record { at = at; form = box_form.Name (named (codes "v") at) }) (each label_variable twice_input.labels))
v_passes at least =
    ap (λ check. check (each label_variable twice_input.labels) least) (box_folds.fold_name (box_exprs.required_step twice_box) (λ e. e.form e.at) at (named (codes "v") at))

sum_passes : Passes (box_exprs.expr_required twice_box sum_of_v (each label_variable twice_input.labels))
sum_passes least =
    ap (λ check. check (each label_variable twice_input.labels) least) (box_folds.fold_op (box_exprs.required_step twice_box) (λ e. e.form e.at) 33 Add _ _)
    ∙ ap (box_exprs.expr_required twice_box (record { at = 35; form = box_form.Name (named (codes "v") 35) }) (each label_variable twice_input.labels)) (v_passes 31 least)
    ∙ v_passes 35 least

body_passes : Passes (box_exprs.expr_required twice_box twice_body (each label_variable twice_input.labels))
body_passes least =
    ap (λ check. check (each label_variable twice_input.labels) least) (box_folds.fold_out (box_exprs.required_step twice_box) (λ e. e.form e.at) 25 1 (sum_of_v ∷ []))
    ∙ ap (λ before. box_exprs.output_required twice_box 1 1 25 before) (sum_passes least)

box_passes : Passes (box_required the_names twice_box)
box_passes least =
    ap (λ before. box_exprs.expr_required twice_box twice_body (each label_variable twice_input.labels) (tuple_required the_names before twice_output))
    (labels_pass the_names twice_input.labels refl least)
    ∙ ap (box_exprs.expr_required twice_box twice_body (each label_variable twice_input.labels)) (labels_pass the_names twice_output.labels refl least) ∙ body_passes least

-- what is declared once the box is
abbrev pub with_twice : Option Refusal → Declarations
with_twice refused = record {
  types = [];
  signatures = [];
  nets = [];
  boxes = box_at the_names twice_box ∷ [];
  scopes = record { outer = []; current = record { names = codes "twice" ∷ []; meanings = meaning.Box 0 ∷ [] } };
  claims = [];
  main = None;
  refusals = refused;
}

twice_declared : after the_names twice start ≡ with_twice None
twice_declared = ap (λ change. change start) (decl_folds.fold_box (decl_step the_names) (net_step the_names) twice_box) ∙ ap with_twice (box_passes None)

-- the scopes within the net
abbrev inner_scopes : Scopes
inner_scopes = record { outer = record { names = codes "twice" ∷ []; meanings = meaning.Box 0 ∷ [] } ∷ []; current = record { names = []; meanings = [] } }

-- the parts of the network by their numbers
abbrev pub start_part : Filter
start_part = filters.filter_at the_names 99 start_pattern [] (start_template ∷ [])

abbrev pub step_part : Filter
step_part = filters.filter_at the_names 127 step_pattern [] (step_template ∷ [])

abbrev pub exit_labels : Labels
exit_labels = variant_at the_names exit_pattern

abbrev pub exit_guard : Option TagExpr
exit_guard = guard_at the_names (Some at_zero)

abbrev pub call_component : Component
call_component = component.Box 90 0

abbrev pub star_component : Component
star_component = component.Star 166 Det (Made (component.Filter step_part)) exit_labels exit_guard

abbrev pub split_component : Component
split_component = component.Split 190 Det (Made star_component) 2

abbrev pub main_component : Component
main_component = component.Serial (Made call_component ∷ Made (component.Filter start_part) ∷ Made split_component ∷ [])

abbrev Stands : NetExpr → Network → Type 0
Stands n made = network_at the_names inner_scopes n ≡ made

call_stands : Stands twice_call (Made call_component)
call_stands = net_folds.fold_name (network_step the_names inner_scopes) (λ n. n.form n.at) 90 (named (codes "twice") 90)

start_stands : Stands start_filter (Made (component.Filter start_part))
start_stands = net_folds.fold_filter (network_step the_names inner_scopes) (λ n. n.form n.at) 99 start_pattern [] (start_template ∷ [])

step_stands : Stands step_filter (Made (component.Filter step_part))
step_stands = net_folds.fold_filter (network_step the_names inner_scopes) (λ n. n.form n.at) 127 step_pattern [] (step_template ∷ [])

star_stands : Stands step_star (Made star_component)
star_stands =
    net_folds.fold_star (network_step the_names inner_scopes) (λ n. n.form n.at) 166 true step_filter exit_pattern (Some at_zero)
    ∙ ap (λ body. Made (component.Star 166 Det body exit_labels exit_guard)) step_stands

split_stands : Stands step_split (Made split_component)
split_stands =
    net_folds.fold_split (network_step the_names inner_scopes) (λ n. n.form n.at) 190 true false step_star (named (codes "k") 193)
    ∙ ap (λ body. Made (component.Split 190 Det body 2)) star_stands

main_stands : Stands main_network (Made main_component)
main_stands =
    net_folds.fold_serial (network_step the_names inner_scopes) (λ n. n.form n.at) 96 (twice_call ∷ start_filter ∷ step_split ∷ [])
    ∙ (λ i. Made (component.Serial (call_stands i ∷ start_stands i ∷ split_stands i ∷ [])))

-- and their checks
abbrev CheckPasses : NetExpr → Type 0
CheckPasses n = Passes (network_required the_names inner_scopes n)

call_passes : CheckPasses twice_call
call_passes least = ap (λ check. check least) (net_folds.fold_name (required_step the_names inner_scopes) (λ n. n.form n.at) 90 (named (codes "twice") 90))

start_holds : Holds start_part.pattern pattern_list
start_holds = holds_all pattern_list

start_passes : CheckPasses start_filter
start_passes least =
    ap (λ check. check least) (net_folds.fold_filter (required_step the_names inner_scopes) (λ n. n.form n.at) 99 start_pattern [] (start_template ∷ []))
    ∙ filter_passes the_names 99 start_pattern start_template refl
    (template_passes the_names start_part.pattern pattern_list start_holds start_template (
      same_passes the_names start_part.pattern pattern_list start_holds (tag_at (codes "n") 110) refl,
      (number_passes the_names start_part.pattern pattern_list start_holds Unknown 118 (pos 0), tt),
    ) refl) least

step_holds : Holds step_part.pattern step_list
step_holds = holds_all step_list

abbrev StepPasses : TExpr → Type 0
StepPasses e = Passes (tags_required the_names step_part.pattern Unknown e)

less_passes : StepPasses one_less
less_passes = op_passes the_names step_part.pattern step_list step_holds Unknown 149 Sub _ _
    (tag_passes the_names step_part.pattern step_list step_holds Unknown 146 _ refl) (number_passes the_names step_part.pattern step_list step_holds Unknown 150 (pos 1))

added_passes : StepPasses sum_of_s
added_passes = op_passes the_names step_part.pattern step_list step_holds Unknown 159 Add _ _
    (tag_passes the_names step_part.pattern step_list step_holds Unknown 156 _ refl) (tag_passes the_names step_part.pattern step_list step_holds Unknown 160 _ refl)

step_passes : CheckPasses step_filter
step_passes least =
    ap (λ check. check least) (net_folds.fold_filter (required_step the_names inner_scopes) (λ n. n.form n.at) 127 step_pattern [] (step_template ∷ []))
    ∙ filter_passes the_names 127 step_pattern step_template refl
    (template_passes the_names step_part.pattern step_list step_holds step_template (less_passes, (added_passes, tt)) refl) least

exit_holds : Holds exit_labels pattern_list
exit_holds = holds_all pattern_list

guard_passes : Passes (tags_required the_names exit_labels GuardTag at_zero)
guard_passes = op_passes the_names exit_labels pattern_list exit_holds GuardTag 183 Eq _ _
    (tag_passes the_names exit_labels pattern_list exit_holds GuardTag 179 _ refl) (number_passes the_names exit_labels pattern_list exit_holds GuardTag 186 (pos 0))

star_passes : CheckPasses step_star
star_passes least =
    ap (λ check. check least) (net_folds.fold_star (required_step the_names inner_scopes) (λ n. n.form n.at) 166 true step_filter exit_pattern (Some at_zero))
    ∙ ap (λ before. tags_required the_names exit_labels GuardTag at_zero (variant_required the_names before exit_pattern)) (step_passes least)
    ∙ ap (tags_required the_names exit_labels GuardTag at_zero) (labels_pass the_names exit_pattern.labels refl least) ∙ guard_passes least

split_passes : CheckPasses step_split
split_passes least =
    ap (λ check. check least) (net_folds.fold_split (required_step the_names inner_scopes) (λ n. n.form n.at) 190 true false step_star (named (codes "k") 193)) ∙ star_passes least

network_passes : CheckPasses main_network
network_passes least =
    ap (λ check. check least) (net_folds.fold_serial (required_step the_names inner_scopes) (λ n. n.form n.at) 96 (twice_call ∷ start_filter ∷ step_split ∷ []))
    ∙ ap (λ before. network_required the_names inner_scopes step_split (network_required the_names inner_scopes start_filter before)) (call_passes least)
    ∙ ap (network_required the_names inner_scopes step_split) (start_passes least) ∙ split_passes least

-- what is declared once the net is, with its network and what is refused
abbrev with_main_net : Network → Option Refusal → Declarations
with_main_net made refused = record {
  types = [];
  signatures = record { input = variant_at the_names input_variant ∷ []; output = variant_at the_names output_variant ∷ [] } ∷ [];
  nets = with_net made [];
  boxes = box_at the_names twice_box ∷ [];
  scopes = record { outer = []; current = record { names = codes "twice" ∷ codes "main" ∷ []; meanings = meaning.Box 0 ∷ meaning.Net (net_at made []) ∷ [] } };
  claims = record { place = 44; net = net_at made []; signature = 0 } ∷ [];
  main = Some 0;
  refusals = refused;
}

abbrev pub declared_all : Declarations
declared_all = with_main_net (Made main_component) None

types_pass : Passes (λ least. variant_required the_names (variant_required the_names least input_variant) output_variant)
types_pass least =
    ap (λ before. variant_required the_names before output_variant) (labels_pass the_names input_variant.labels refl least) ∙ labels_pass the_names output_variant.labels refl least

main_declared : after the_names main (with_twice None) ≡ declared_all
main_declared =
    ap (λ change. change (with_twice None)) (decl_folds.fold_net (decl_step the_names) (net_step the_names) (named (codes "main") 44) (Some main_type) [] main_network)
    ∙ (λ i. with_main_net (main_stands i) ((ap (network_required the_names inner_scopes main_network) (types_pass None) ∙ network_passes None) i))

pub source_declared : declarations_of the_names source_tree ≡ declared_all
source_declared = ap (after the_names main) twice_declared ∙ main_declared
