-- Networks that are not refused are sound at each level.
use Rattle.std.proofs.Common.{◌≡◌, ℕ, ◌≤◌, Bool, IsTrue, IfSome, List, [], ◌∷◌, length, map as each, Option, Some, None, nat_le, refl, sym, ap, ◌∙◌, subst, subst₂, arith}
use Rattle.std.proofs.lemmas.Bool.{and_parts}
use Rattle.std.proofs.lemmas.Bool.Decides.{nat_tests}
use Rattle.std.proofs.lemmas.List.{length-map}
use Rattle.sn_ast.specs.declared.network.NetExpr.{NetExpr, fold-roll-NetExpr}
use Rattle.sn_ast.specs.declared.network.NetForm.{NetForm, fold-NetForm}
use Rattle.sn_ast.specs.declared.network.NetForm.TheFolds.{fold-roll-NetForm, ind-NetExpr, map-NetForm}
use Rattle.sn_ast.specs.declared.network.NetForm.TheOpen.{NetForm-F}
use Rattle.sn_ast.specs.declared.network.NetForm.TheViews.{roll-NetForm, roll-NetExpr}
use Rattle.sn_ast.specs.declared.tag_expr.TExpr.{TExpr}
use Rattle.sn_names.specs.Names.{label_number}
use Rattle.sn_net.specs.Filter.{is_over}
use Rattle.sn_net.specs.WellFormed.{most_branches}
use Rattle.sn_record.specs.LabelSet.{Labels}
use Rattle.sn_scope.specs.Filters.{filter_at, identity_at, is_between}
use Rattle.sn_label_scope.specs.Labels.{variant_at, variant_required}
use Rattle.sn_scope.specs.Networks.{all_required, guard_at, guard_required, is_part, merge_of, named_at, network_at, network_required, network_step, required_step}
use Rattle.sn_label_scope.specs.Refusals.{required, Check}
use Rattle.sn_scope.specs.Scopes.{meaning_of}
use Rattle.sn_scope.specs.declared.network.Component.TheVariants as component
use Rattle.sn_scope.specs.declared.network.Network.{Network}
use Rattle.sn_scope.specs.declared.network.Network.TheVariants.{Made}
use Rattle.sn_label_scope.specs.declared.refusal.Reason.TheVariants.{Unknown, Arity, GuardTag}
use Rattle.sn_scope.specs.declared.scopes.Meaning.{Meaning}
use Rattle.sn_scope.specs.declared.scopes.Meaning.TheVariants as meaning
use Rattle.sn_scope.specs.declared.scopes.Scopes.{Scopes}
use Rattle.sn_label_scope.proofs.Checks.{Tells, required_tells, tells_each, tells_weaker, variant_tells}
use Rattle.sn_scope.proofs.SoundComponents.{IsSoundComponent, IsSoundNetwork, SoundNetwork, networks, sound_box, sound_choice, sound_filter, sound_made, sound_named, sound_serial, sound_split, sound_star, sound_sync}
use Rattle.sn_scope.proofs.SoundFilters.{filter_tells, identity_closed}
use Rattle.sn_scope.proofs.SoundTags.{tags_tell}

-- a guard that is not refused has only tags of the exit pattern
pub guard_tells : (names : List (List ℕ)) (exit : Labels) (guard : Option TExpr) → Tells (guard_required names exit guard) (IfSome (guard_at names guard) (λ test. IsTrue (is_over exit test)))
guard_tells names exit None least none = (none, tt)
guard_tells names exit (Some e) least none = tags_tell names exit GuardTag e least none

-- a count that is not refused is no more than the most
pub between_most : (least most count : ℕ) → IsTrue (is_between least most count) → count ≤ most
between_most least most count between = let parts = and_parts (nat_le least count) (nat_le count most) between in grind (arith, nat_tests, parts.1)

identity_sound : (place : ℕ) → IsSoundNetwork (Made (component.Filter (identity_at place)))
identity_sound place = sound_made _ (sound_filter (identity_at place) (identity_closed place))

named_sound : (found : Option Meaning) (place : ℕ) → IsSoundNetwork (named_at found place)
named_sound (Some (meaning.«Type» number)) place = identity_sound place
named_sound (Some (meaning.Signature number)) place = identity_sound place
named_sound (Some (meaning.Net number)) place = sound_named number
named_sound (Some (meaning.Box number)) place = sound_made _ (sound_box place number)
named_sound None place = identity_sound place

module _ (names : List (List ℕ)) (scopes : Scopes) where
  abbrev form_check : NetForm → ℕ → Check
  form_check = fold-NetForm (ℕ → Check) Check (required_step names scopes) (λ n. n.form n.at)

  abbrev form_network : NetForm → ℕ → Network
  form_network = fold-NetForm (ℕ → Network) Network (network_step names scopes) (λ n. n.form n.at)

  abbrev check_of : NetExpr → Check
  check_of = network_required names scopes

  abbrev network_of : NetExpr → Network
  network_of = network_at names scopes

  abbrev FormTells : NetForm → Type 0
  FormTells form = (place : ℕ) → Tells (form_check form place) (IsSoundNetwork (form_network form place))

  abbrev NetworkTells : NetExpr → Type 0
  NetworkTells n = Tells (check_of n) (IsSoundNetwork (network_of n))

  -- one level, where it tells over the checks and networks of its parts
  level : (x : NetForm-F NetForm NetExpr)
      → ((place : ℕ) → Tells (required_step names scopes (map-NetForm NetForm NetExpr (ℕ → Check) Check form_check check_of x) place)
      (IsSoundNetwork (network_step names scopes (map-NetForm NetForm NetExpr (ℕ → Network) Network form_network network_of x) place)))
      → FormTells (roll-NetForm x)
  level x told = subst₂ (λ (check : ℕ → Check) (made : ℕ → Network). (place : ℕ) → Tells (check place) (IsSoundNetwork (made place)))
      (sym (fold-roll-NetForm (ℕ → Check) Check (required_step names scopes) (λ n. n.form n.at) x))
      (sym (fold-roll-NetForm (ℕ → Network) Network (network_step names scopes) (λ n. n.form n.at) x)) told

  abbrev Told : Type 0
  Told = (n : NetExpr) × NetworkTells n

  -- networks with their soundness, which are those of the expressions
  abbrev pub Sounds : List NetExpr → Type 0
  Sounds parts = (made : List SoundNetwork) × (networks made ≡ each network_of parts)

  -- parts that are not refused are sound
  all_tell : (parts : List Told) → Tells (all_required (each check_of (each (λ e. e.0) parts))) (Sounds (each (λ e. e.0) parts))
  all_tell [] least none = (none, ([], refl))
  all_tell (part ∷ parts) least none =
      let rest = all_tell parts (check_of part.0 least) none in
      let first = part.1 least rest.0 in
      (first.0, ((network_of part.0, first.1) ∷ rest.1.0, ap (λ more. network_of part.0 ∷ more) rest.1.1))

  serial_tells : (parts : List Told) (place : ℕ) → Tells (all_required (each check_of (each (λ e. e.0) parts))) (IsSoundNetwork (Made (component.Serial (each network_of (each (λ e. e.0) parts)))))
  serial_tells parts place = tells_weaker _ _ _ (all_tell parts) (λ made. sound_made _ (subst (λ ns. IsSoundComponent (component.Serial ns)) made.1 (sound_serial made.0)))

  choice_tells : (det : Bool) (parts : List Told) (place : ℕ)
      → Tells (λ least. all_required (each check_of (each (λ e. e.0) parts)) (required (is_between 2 64 (length (each check_of (each (λ e. e.0) parts)))) Arity place least))
      (IsSoundNetwork (Made (component.Choice place (merge_of det) (each network_of (each (λ e. e.0) parts)))))
  choice_tells det parts place least none =
      let exprs = each (λ (e : Told). e.0) parts in
      let count = length (each check_of exprs) in
      let all = all_tell parts (required (is_between 2 64 count) Arity place least) none in
      let between = required_tells (is_between 2 64 count) Arity place least all.0 in
      let most = between_most 2 64 count between.1 in
      let same : length (networks all.1.0) ≡ count = ap length all.1.1 ∙ length-map exprs network_of ∙ sym (length-map exprs check_of) in
      let few = subst (λ n. n ≤ most_branches) (sym same) most in
      (between.0, sound_made _ (subst (λ ns. IsSoundComponent (component.Choice place (merge_of det) ns)) all.1.1 (sound_choice place (merge_of det) all.1.0 few)))

  -- a network that is not refused is sound
  pub network_tells : (n : NetExpr) → Tells (network_required names scopes n) (IsSoundNetwork (network_at names scopes n))
  network_tells = ind-NetExpr FormTells NetworkTells
      (λ x y is. subst (λ z. FormTells (roll-NetForm z)) is (level (map-NetForm _ _ NetForm NetExpr (λ e. e.0) (λ e. e.0) y) (elim y as (λ z. (place : ℕ) → Tells
      (required_step names scopes (map-NetForm NetForm NetExpr (ℕ → Check) Check form_check check_of (map-NetForm _ _ NetForm NetExpr (λ e. e.0) (λ e. e.0) z)) place)
      (IsSoundNetwork (network_step names scopes (map-NetForm NetForm NetExpr (ℕ → Network) Network form_network network_of (map-NetForm _ _ NetForm NetExpr (λ e. e.0) (λ e. e.0) z)) place))) [
        | NetForm-F.Name name ↦ λ place. tells_weaker _ _ _ (required_tells (is_part (meaning_of scopes name.text)) Unknown name.at) (λ there. named_sound (meaning_of scopes name.text) name.at)
        | NetForm-F.Identity ↦ λ place least none. (none, identity_sound place)
        | NetForm-F.Filter pattern arms templates ↦ λ place. tells_weaker _ _ _ (filter_tells names place pattern arms templates) (λ closed. sound_made _ (sound_filter (filter_at names place pattern arms templates) closed))
        | NetForm-F.Sync patterns ↦ λ place least none.
            let before = tells_each (variant_required names) (λ pattern. Unit {0}) (variant_tells names) patterns (required (is_between 2 8 (length patterns)) Arity place least) none in
            ((required_tells (is_between 2 8 (length patterns)) Arity place least before.0).0, sound_made _ (sound_sync place (each (variant_at names) patterns)))
        | NetForm-F.Serial parts ↦ serial_tells parts
        | NetForm-F.Choice det branches ↦ choice_tells det branches
        | NetForm-F.Star det body exit guard ↦ λ place least none.
            let over = guard_tells names (variant_at names exit) guard (variant_required names (check_of body.0 least) exit) none in
            let before = variant_tells names exit (check_of body.0 least) over.0 in
            let part = body.1 least before.0 in
            (part.0, sound_made _ (sound_star place (merge_of det) (network_of body.0, part.1) (variant_at names exit) (guard_at names guard) over.1))
        | NetForm-F.Split det spread body tag ↦ λ place. tells_weaker _ _ _ body.1 (λ sound. sound_made _ (sound_split place (merge_of det) (network_of body.0, sound) (label_number names tag.text)))
        | NetForm-F.Placed body node ↦ λ place. body.1
      ])))
      (λ x y is. subst (λ z. NetworkTells (roll-NetExpr z)) is
      (subst₂ (λ check n. Tells check (IsSoundNetwork n))
      (sym (fold-roll-NetExpr (ℕ → Check) Check (required_step names scopes) (λ n. n.form n.at) (record { at = y.at; form = y.form.0 })))
      (sym (fold-roll-NetExpr (ℕ → Network) Network (network_step names scopes) (λ n. n.form n.at) (record { at = y.at; form = y.form.0 }))) (y.form.1 y.at)))
