-- A network without its placements.
use Rattle.std.specs.Prelude.{ℕ, false}
use Rattle.sn_ast.specs.declared.network.NetExpr.{NetExpr, fold-NetExpr}
use Rattle.sn_ast.specs.declared.network.NetForm.TheOpen.{NetForm-F}
use Rattle.sn_ast.specs.declared.network.NetForm.TheVariants as form

-- one level at its place: a placed part is its part, and a spread split is a split
abbrev pub without_step : NetForm-F (ℕ → NetExpr) NetExpr → ℕ → NetExpr
without_step (NetForm-F.Name name) place = record { at = place; form = form.Name name }
without_step NetForm-F.Identity place = record { at = place; form = form.Identity }
without_step (NetForm-F.Filter pattern arms templates) place = record { at = place; form = form.Filter pattern arms templates }
without_step (NetForm-F.Sync patterns) place = record { at = place; form = form.Sync patterns }
without_step (NetForm-F.Serial parts) place = record { at = place; form = form.Serial parts }
without_step (NetForm-F.Choice det branches) place = record { at = place; form = form.Choice det branches }
without_step (NetForm-F.Star det body exit guard) place = record { at = place; form = form.Star det body exit guard }
without_step (NetForm-F.Split det spread body tag) place = record { at = place; form = form.Split det false body tag }
without_step (NetForm-F.Placed body node) place = body

abbrev pub without_placements : NetExpr → NetExpr
without_placements = fold-NetExpr (ℕ → NetExpr) NetExpr without_step (λ n. n.form n.at)
