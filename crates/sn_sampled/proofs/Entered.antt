-- The names of the labels of the built-in source.
use Rattle.std.proofs.Common.{◌≡◌, ℕ, true, false, List, [], ◌∷◌, codes, Some, ap, ◌∙◌}
use Rattle.sn_ast.specs.declared.label.Ident.{Ident}
use Rattle.sn_ast.specs.declared.tag_expr.Operator.{Operator}
use Rattle.sn_ast.specs.declared.tag_expr.Operator.TheVariants.{Add, Sub, Eq}
use Rattle.sn_ast.specs.declared.tag_expr.TExpr.{TExpr}
use Rattle.sn_ast.specs.declared.tag_expr.TForm.TheVariants as tag_form
use Rattle.sn_names.specs.Names.{entered}
use Rattle.sn_roundtrip.proofs.Declarations as decl_folds
use Rattle.sn_roundtrip.proofs.Networks as net_folds
use Rattle.sn_roundtrip.proofs.Tags as tag_folds
use Rattle.sn_scope.specs.Numbering.{Entry, after_tags, tags_step, after_network, network_step, after_decl, decl_step, net_step, names_of}
use Rattle.sn_sampled.proofs.Tree.{named, twice, twice_box, main, main_type, main_network, twice_call, start_filter, start_pattern, start_template, step_filter, step_pattern, step_template, step_star, step_split, exit_pattern, zero_expr, one_less, sum_of_s, at_zero, source_tree}

-- the names, in the order of their first places
abbrev pub the_names : List (List ℕ)
the_names = codes "v" ∷ codes "w" ∷ codes "k" ∷ codes "n" ∷ codes "s" ∷ []

-- whether a name's entry leaves the names as they are
abbrev Leaves : Entry → Type 0
Leaves entry = entry the_names ≡ the_names

-- expressions over tags
number_leaves : (at : ℕ) (n : _) → Leaves (after_tags (record { at = at; form = tag_form.Number n }))
number_leaves at n = ap (λ entry. entry the_names) (tag_folds.fold_number tags_step (λ e. e.form) at n)

tag_enters : (at : ℕ) (name : Ident) → after_tags (record { at = at; form = tag_form.Tag name }) the_names ≡ entered the_names name.text
tag_enters at name = ap (λ entry. entry the_names) (tag_folds.fold_tag tags_step (λ e. e.form) at name)

both_leave : (at : ℕ) (o : Operator) (e f : TExpr) → Leaves (after_tags e) → Leaves (after_tags f) → Leaves (after_tags (record { at = at; form = tag_form.Op o e f }))
both_leave at o e f first second = ap (λ entry. entry the_names) (tag_folds.fold_op tags_step (λ e. e.form) at o e f) ∙ ap (after_tags f) first ∙ second

zero_leaves : Leaves (after_tags zero_expr)
zero_leaves = number_leaves 118 _

less_leaves : Leaves (after_tags one_less)
less_leaves = both_leave 149 Sub _ _ (tag_enters 146 _) (number_leaves 150 _)

sum_leaves : Leaves (after_tags sum_of_s)
sum_leaves = both_leave 159 Add _ _ (tag_enters 156 _) (tag_enters 160 _)

guard_leaves : Leaves (after_tags at_zero)
guard_leaves = both_leave 183 Eq _ _ (tag_enters 179 _) (number_leaves 186 _)

-- parts of the network
call_leaves : Leaves (after_network twice_call)
call_leaves = ap (λ entry. entry the_names) (net_folds.fold_name network_step (λ n. n.form) 90 (named (codes "twice") 90))

start_leaves : Leaves (after_network start_filter)
start_leaves = ap (λ entry. entry the_names) (net_folds.fold_filter network_step (λ n. n.form) 99 start_pattern [] (start_template ∷ [])) ∙ zero_leaves

step_leaves : Leaves (after_network step_filter)
step_leaves =
    ap (λ entry. entry the_names) (net_folds.fold_filter network_step (λ n. n.form) 127 step_pattern [] (step_template ∷ []))
    ∙ ap (λ names. after_tags sum_of_s (entered names (codes "s"))) less_leaves ∙ sum_leaves

star_leaves : Leaves (after_network step_star)
star_leaves =
    ap (λ entry. entry the_names) (net_folds.fold_star network_step (λ n. n.form) 166 true step_filter exit_pattern (Some at_zero))
    ∙ ap (λ names. after_tags at_zero (entered names (codes "n"))) step_leaves ∙ guard_leaves

split_leaves : Leaves (after_network step_split)
split_leaves =
    ap (λ entry. entry the_names) (net_folds.fold_split network_step (λ n. n.form) 190 true false step_star (named (codes "k") 193))
    ∙ ap (λ names. entered names (codes "k")) star_leaves

network_leaves : Leaves (after_network main_network)
network_leaves =
    ap (λ entry. entry the_names) (net_folds.fold_serial network_step (λ n. n.form) 96 (twice_call ∷ start_filter ∷ step_split ∷ []))
    ∙ ap (λ names. after_network step_split (after_network start_filter names)) call_leaves ∙ ap (after_network step_split) start_leaves ∙ split_leaves

box_enters : after_decl twice [] ≡ codes "v" ∷ codes "w" ∷ []
box_enters = ap (λ entry. entry []) (decl_folds.fold_box decl_step net_step twice_box)

main_enters : after_decl main (codes "v" ∷ codes "w" ∷ []) ≡ the_names
main_enters = ap (λ entry. entry (codes "v" ∷ codes "w" ∷ [])) (decl_folds.fold_net decl_step net_step (named (codes "main") 44) (Some main_type) [] main_network) ∙ network_leaves

pub source_names : names_of source_tree ≡ the_names
source_names = ap (after_decl main) box_enters ∙ main_enters
