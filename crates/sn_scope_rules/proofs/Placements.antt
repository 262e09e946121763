-- What goes over networks by one step for each form, and looks at no placement, is the same without them.
use Rattle.std.proofs.Common.{◌≡◌, ℕ, Bool, false, List, [], ◌∷◌, map, refl, sym, ap, ◌∙◌, subst}
use Rattle.sn_ast.specs.declared.label.Ident.{Ident}
use Rattle.sn_ast.specs.declared.network.NetExpr.{NetExpr, NetExpr-F, fold-NetExpr, fold-roll-NetExpr}
use Rattle.sn_ast.specs.declared.network.NetForm.{NetForm, fold-NetForm}
use Rattle.sn_ast.specs.declared.network.NetForm.TheFolds.{fold-roll-NetForm, ind-NetExpr, map-NetForm}
use Rattle.sn_ast.specs.declared.network.NetForm.TheOpen.{NetForm-F}
use Rattle.sn_ast.specs.declared.network.NetForm.TheVariants as form
use Rattle.sn_ast.specs.declared.network.NetForm.TheViews.{roll-NetForm, roll-NetExpr}
use Rattle.sn_scope_rules.specs.Placements.{without_placements, without_step}

abbrev without_form : NetForm → ℕ → NetExpr
without_form = fold-NetForm (ℕ → NetExpr) NetExpr without_step (λ n. n.form n.at)

module _ {A B : Type 0} (s : NetForm-F A B → A) (t : NetExpr-F A B → B)
    (spread_is : (place : ℕ) (det spread : Bool) (body : B) (tag : Ident) → t (record { at = place; form = s (NetForm-F.Split det false body tag) }) ≡ t (record { at = place; form = s (NetForm-F.Split det spread body tag) }))
    (placed_is : (place node : ℕ) (body : B) → body ≡ t (record { at = place; form = s (NetForm-F.Placed body node) })) where
  abbrev value : NetExpr → B
  value = fold-NetExpr A B s t

  abbrev value_form : NetForm → A
  value_form = fold-NetForm A B s t

  abbrev at_place : ℕ → A → B
  at_place place a = t (record { at = place; form = a })

  -- a network whose form is known
  level : (place : ℕ) (x : NetForm-F NetForm NetExpr) (made : NetForm) → roll-NetForm x ≡ made →
      value (record { at = place; form = made }) ≡ at_place place (s (map-NetForm NetForm NetExpr A B value_form value x))
  level place x made rolls =
      fold-roll-NetExpr A B s t (record { at = place; form = made }) ∙ ap (at_place place) (ap value_form (sym rolls) ∙ fold-roll-NetForm A B s t x)

  abbrev FormSame : NetForm → Type 0
  FormSame made = (place : ℕ) → value (without_form made place) ≡ at_place place (value_form made)

  abbrev NetSame : NetExpr → Type 0
  NetSame n = value (without_placements n) ≡ value n

  abbrev Told : Type 0
  Told = (n : NetExpr) × NetSame n

  abbrev exprs : List Told → List NetExpr
  exprs parts = map (λ (e : Told). e.0) parts

  all_same : (parts : List Told) → map value (map without_placements (exprs parts)) ≡ map value (exprs parts)
  all_same [] = refl
  all_same (part ∷ parts) = λ i. part.1 i ∷ all_same parts i

  here : (x : NetForm-F NetForm NetExpr) → ((place : ℕ) → value (without_step (map-NetForm NetForm NetExpr (ℕ → NetExpr) NetExpr without_form without_placements x) place)
      ≡ at_place place (s (map-NetForm NetForm NetExpr A B value_form value x))) → FormSame (roll-NetForm x)
  here x told place =
      ap (λ (made : ℕ → NetExpr). value (made place)) (fold-roll-NetForm (ℕ → NetExpr) NetExpr without_step (λ n. n.form n.at) x) ∙ told place
      ∙ ap (at_place place) (sym (fold-roll-NetForm A B s t x))

  whole : (place : ℕ) (made : NetForm) → FormSame made → NetSame (roll-NetExpr (record { at = place; form = made }))
  whole place made told =
      ap value (fold-roll-NetExpr (ℕ → NetExpr) NetExpr without_step (λ n. n.form n.at) (record { at = place; form = made })) ∙ told place
      ∙ sym (fold-roll-NetExpr A B s t (record { at = place; form = made }))

  pub same_without : (n : NetExpr) → NetSame n
  same_without = ind-NetExpr FormSame NetSame
      (λ x y is. subst (λ z. FormSame (roll-NetForm z)) is (here (map-NetForm _ _ NetForm NetExpr (λ e. e.0) (λ e. e.0) y) (elim y as (λ z. (place : ℕ) →
      value (without_step (map-NetForm NetForm NetExpr (ℕ → NetExpr) NetExpr without_form without_placements (map-NetForm _ _ NetForm NetExpr (λ e. e.0) (λ e. e.0) z)) place)
      ≡ at_place place (s (map-NetForm NetForm NetExpr A B value_form value (map-NetForm _ _ NetForm NetExpr (λ e. e.0) (λ e. e.0) z)))) [
        | NetForm-F.Name name ↦ λ place. level place (NetForm-F.Name name) _ (form.rolls-Name name)
        | NetForm-F.Identity ↦ λ place. level place NetForm-F.Identity _ form.rolls-Identity
        | NetForm-F.Filter pattern arms templates ↦ λ place. level place (NetForm-F.Filter pattern arms templates) _ (form.rolls-Filter pattern arms templates)
        | NetForm-F.Sync patterns ↦ λ place. level place (NetForm-F.Sync patterns) _ (form.rolls-Sync patterns)
        | NetForm-F.Serial parts ↦ λ place. let made = map without_placements (exprs parts) in
            level place (NetForm-F.Serial made) _ (form.rolls-Serial made) ∙ ap (λ ps. at_place place (s (NetForm-F.Serial ps))) (all_same parts)
        | NetForm-F.Choice det branches ↦ λ place. let made = map without_placements (exprs branches) in
            level place (NetForm-F.Choice det made) _ (form.rolls-Choice det made) ∙ ap (λ ps. at_place place (s (NetForm-F.Choice det ps))) (all_same branches)
        | NetForm-F.Star det body exit guard ↦ λ place. let made = without_placements body.0 in
            level place (NetForm-F.Star det made exit guard) _ (form.rolls-Star det made exit guard) ∙ ap (λ b. at_place place (s (NetForm-F.Star det b exit guard))) body.1
        | NetForm-F.Split det spread body tag ↦ λ place. let made = without_placements body.0 in
            level place (NetForm-F.Split det false made tag) _ (form.rolls-Split det false made tag) ∙ ap (λ b. at_place place (s (NetForm-F.Split det false b tag))) body.1
            ∙ spread_is place det spread (value body.0) tag
        | NetForm-F.Placed body node ↦ λ place. body.1 ∙ placed_is place node (value body.0)
      ])))
      (λ x y is. subst (λ z. NetSame (roll-NetExpr z)) is (whole y.at y.form.0 y.form.1))
