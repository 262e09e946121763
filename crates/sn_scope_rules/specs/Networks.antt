-- What is refused in networks.
use Rattle.std.specs.Prelude.{◌≡◌, ℕ, ◌≤◌, Bool, false, List, [], ◌∷◌, length, Option, Some}
use Rattle.sn_ast.specs.declared.label.Ident.{Ident}
use Rattle.sn_ast.specs.declared.label.Variant.{Variant}
use Rattle.sn_ast.specs.declared.network.ArmAt.{ArmAt}
use Rattle.sn_ast.specs.declared.network.NetExpr.{NetExpr}
use Rattle.sn_ast.specs.declared.network.NetForm.{NetForm}
use Rattle.sn_ast.specs.declared.network.NetForm.TheOpen.{NetForm-F}
use Rattle.sn_ast.specs.declared.network.NetForm.TheViews.{out-NetForm, out-NetExpr}
use Rattle.sn_ast.specs.declared.network.TemplateAt.{TemplateAt}
use Rattle.sn_ast.specs.declared.tag_expr.TExpr.{TExpr}
use Rattle.sn_label_scope.specs.declared.refusal.Refusal.{Refusal}
use Rattle.sn_scope.specs.Filters.{is_between}
use Rattle.sn_scope_rules.specs.Filters.{FilterBreaks, NamesOther}
use Rattle.sn_scope_rules.specs.Labels.{LabelsBreak}
use Rattle.sn_scope_rules.specs.Refusals.{arity, guard_tag, unknown}
use Rattle.sn_scope_rules.specs.Standing.{StandsIn, StandsWithin}
use Rattle.sn_scope_rules.specs.Visible.{Around, is_part, stands_for_a}

-- the form of a network, and its place
abbrev pub form_of : NetExpr → NetForm-F NetForm NetExpr
form_of net = out-NetForm (out-NetExpr net).form

abbrev pub place_of : NetExpr → ℕ
place_of net = (out-NetExpr net).at

-- the networks that a form is made of
abbrev pub parts_in : NetForm-F NetForm NetExpr → List NetExpr
parts_in (NetForm-F.Name name) = []
parts_in NetForm-F.Identity = []
parts_in (NetForm-F.Filter pattern arms templates) = []
parts_in (NetForm-F.Sync patterns) = []
parts_in (NetForm-F.Serial parts) = parts
parts_in (NetForm-F.Choice det branches) = branches
parts_in (NetForm-F.Star det body exit guard) = body ∷ []
parts_in (NetForm-F.Split det spread body tag) = body ∷ []
parts_in (NetForm-F.Placed body node) = body ∷ []

abbrev pub parts_of : NetExpr → List NetExpr
parts_of net = parts_in (form_of net)

-- what is refused in one form at its place, but for the networks that it is made of
pub data FormBreaks (around : Around) (place : ℕ) : NetForm-F NetForm NetExpr → Refusal → Type 0 where
  no_such_part : {name : Ident} → stands_for_a is_part around name.text ≡ false → FormBreaks around place (NetForm-F.Name name) (unknown name.at)
  in_filter : {pattern : Variant} {arms : List ArmAt} {templates : List TemplateAt} {r : Refusal} →
      FilterBreaks place pattern arms templates r → FormBreaks around place (NetForm-F.Filter pattern arms templates) r
  pattern_count : {patterns : List Variant} → is_between 2 8 (length patterns) ≡ false → FormBreaks around place (NetForm-F.Sync patterns) (arity place)
  in_cell_pattern : {patterns : List Variant} {pattern : Variant} {r : Refusal} →
      StandsIn pattern patterns → LabelsBreak pattern.labels r → FormBreaks around place (NetForm-F.Sync patterns) r
  branch_count : {det : Bool} {branches : List NetExpr} → is_between 2 64 (length branches) ≡ false → FormBreaks around place (NetForm-F.Choice det branches) (arity place)
  in_exit : {det : Bool} {body : NetExpr} {exit : Variant} {guard : Option TExpr} {r : Refusal} →
      LabelsBreak exit.labels r → FormBreaks around place (NetForm-F.Star det body exit guard) r
  no_such_guard_tag : {det : Bool} {body : NetExpr} {exit : Variant} {e : TExpr} {name : Ident} →
      NamesOther exit.labels e name → FormBreaks around place (NetForm-F.Star det body exit (Some e)) (guard_tag name.at)

-- what is refused in a network that stands somewhere within it
pub data NetworkBreaks (around : Around) (net : NetExpr) : Refusal → Type 0 where
  in_form : {part : NetExpr} {r : Refusal} → StandsWithin parts_of part net → FormBreaks around (place_of part) (form_of part) r → NetworkBreaks around net r

-- each series in the network has two parts or more
abbrev pub HasLongSeries : NetExpr → Type 0
HasLongSeries net = (part : NetExpr) (parts : List NetExpr) → StandsWithin parts_of part net → form_of part ≡ NetForm-F.Serial parts → 2 ≤ length parts
