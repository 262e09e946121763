-- One level of a tree, form by form.
use Rattle.std.proofs.Common.{◌≡◌, refl, ℕ, ◌<◌, ◌≤◌, true, false, cond, nat_lt, List, [], ◌∷◌, length, drop, get_or, map, slice_get, Option, Some, None, option_map, sym, ap, ◌∙◌, arith}
use Rattle.std.proofs.lemmas.Bool.Decides.{nat_tests}
use Rattle.std.proofs.lemmas.Option.{slice_get_past, slice_get-get_or}
use Rattle.sn_record.specs.LabelSet.{Labels}
use Rattle.sn_tagexpr.specs.declared.expr.TagExpr.{TagExpr}
use Rattle.sn_net.specs.declared.expr.BoxProgram.{BoxProgram}
use Rattle.sn_net.specs.declared.filter.Filter.{Filter}
use Rattle.sn_net.specs.declared.net.Merge.{Merge}
use Rattle.sn_net.specs.declared.net.Net.{Net}
use Rattle.sn_net.specs.declared.net.Net.TheVariants as net
use Rattle.sn_net.specs.Face.{face}
use Rattle.sn_scope.specs.Built.{part_of, parts_of, rest_of, series_of}
use Rattle.sn_scope.specs.Trees.{all_some, call, component_of, component_step, in_series, node, node_step, series, then_some, tree}
use Rattle.sn_scope.specs.declared.network.Component.{Component}
use Rattle.sn_scope.specs.declared.network.Component.TheOpen.{Component-F, Network-F}
use Rattle.sn_scope.specs.declared.network.Component.TheViews.{out-Component, out-Network, out-roll-Component, out-roll-Network}
use Rattle.sn_scope.specs.declared.network.Component.TheVariants as component
use Rattle.sn_scope.specs.declared.network.Network.{Network}
use Rattle.sn_scope.specs.declared.network.Network.TheVariants as network

module _ (boxes : List BoxProgram) (part : Network → Option Net) (rest : List Network → Option Net) where
  pub node-Box : (place number : ℕ) → node boxes part rest (component.Box place number) ≡ call boxes place number
  node-Box place number = ap (node_step boxes part rest) (ap out-Component (sym (component.rolls-Box place number)) ∙ out-roll-Component (Component-F.Box place number))

  pub node-Filter : (filter : Filter) → node boxes part rest (component.Filter filter) ≡ Some (net.Filter filter)
  node-Filter filter = ap (node_step boxes part rest) (ap out-Component (sym (component.rolls-Filter filter)) ∙ out-roll-Component (Component-F.Filter filter))

  pub node-Sync : (place : ℕ) (patterns : List Labels) → node boxes part rest (component.Sync place patterns) ≡ Some (net.Sync place patterns)
  node-Sync place patterns = ap (node_step boxes part rest) (ap out-Component (sym (component.rolls-Sync place patterns)) ∙ out-roll-Component (Component-F.Sync place patterns))

  pub node-Serial : (parts : List Network) → node boxes part rest (component.Serial parts) ≡ series part rest parts
  node-Serial parts = ap (node_step boxes part rest) (ap out-Component (sym (component.rolls-Serial parts)) ∙ out-roll-Component (Component-F.Serial parts))

  pub node-Choice : (place : ℕ) (merge : Merge) (branches : List Network) →
      node boxes part rest (component.Choice place merge branches) ≡ option_map (λ nets. net.Choice place merge nets (map (face boxes) nets)) (all_some (map part branches))
  node-Choice place merge branches = ap (node_step boxes part rest) (ap out-Component (sym (component.rolls-Choice place merge branches)) ∙ out-roll-Component (Component-F.Choice place merge branches))

  pub node-Star : (place : ℕ) (merge : Merge) (body : Network) (exit : Labels) (guard : Option TagExpr) →
      node boxes part rest (component.Star place merge body exit guard) ≡ option_map (λ made. net.Star place merge made exit guard) (part body)
  node-Star place merge body exit guard =
      ap (node_step boxes part rest) (ap out-Component (sym (component.rolls-Star place merge body exit guard)) ∙ out-roll-Component (Component-F.Star place merge body exit guard))

  pub node-Split : (place : ℕ) (merge : Merge) (body : Network) (tag : ℕ) →
      node boxes part rest (component.Split place merge body tag) ≡ option_map (λ made. net.Split place merge made tag) (part body)
  node-Split place merge body tag = ap (node_step boxes part rest) (ap out-Component (sym (component.rolls-Split place merge body tag)) ∙ out-roll-Component (Component-F.Split place merge body tag))

-- what a part of a network stands for
pub component-Named : (nets : List Component) (number : ℕ) → component_of nets (network.Named number) ≡ slice_get nets number
component-Named nets number = ap (component_step nets) (ap out-Network (sym (network.rolls-Named number)) ∙ out-roll-Network (Network-F.Named number))

pub component-Made : (nets : List Component) (made : Component) → component_of nets (network.Made made) ≡ Some made
component-Made nets made = ap (component_step nets) (ap out-Network (sym (network.rolls-Made made)) ∙ out-roll-Network (Network-F.Made made))

module _ (boxes : List BoxProgram) (levels : ℕ) (nets : List Component) where
  -- a number past the nets stands for nothing
  pub part-past : (part : Network) (number : ℕ) → part ≡ network.Named number → length nets ≤ number → part_of boxes levels nets part ≡ None
  part-past part number is past = ap (part_of boxes levels nets) is ∙ ap (λ c. then_some c (tree boxes levels nets)) (component-Named nets number ∙ slice_get_past nets number past)

  pub part-Named : (part : Network) (number : ℕ) (found : Component) → part ≡ network.Named number → number < length nets → found ≡ get_or nets number found →
      part_of boxes levels nets part ≡ tree boxes levels nets found
  part-Named part number found is within at =
      ap (part_of boxes levels nets) is ∙ ap (λ c. then_some c (tree boxes levels nets)) (component-Named nets number ∙ slice_get-get_or nets number found within ∙ ap Some (sym at))

  pub part-Made : (part : Network) (made : Component) → part ≡ network.Made made → part_of boxes levels nets part ≡ tree boxes levels nets made
  part-Made part made is = ap (part_of boxes levels nets) is ∙ ap (λ c. then_some c (tree boxes levels nets)) (component-Made nets made)

  -- two or more parts in series are the first and the rest
  pub series-rest : (parts : List Network) (first : Network) → 2 ≤ length parts → first ≡ get_or parts 0 first →
      series_of boxes levels nets parts ≡ in_series (part_of boxes levels nets first) (rest_of boxes levels nets (drop 1 parts))
  series-rest [] first two at = absurd (omega (arith, two))
  series-rest (a ∷ []) first two at = absurd (omega (arith, two))
  series-rest (a ∷ b ∷ []) first two at = ap (λ x. in_series (part_of boxes levels nets x) (part_of boxes levels nets b)) (sym at)
  series-rest (a ∷ b ∷ c ∷ more) first two at = ap (λ x. in_series (part_of boxes levels nets x) (parts_of boxes levels nets (b ∷ c ∷ more))) (sym at)

  -- one part is the rest alone, and several are in series
  pub rest-one : (parts : List Network) (first : Network) → length parts ≡ 1 → first ≡ get_or parts 0 first → rest_of boxes levels nets parts ≡ part_of boxes levels nets first
  rest-one [] first one at = absurd (omega (arith, one))
  rest-one (a ∷ []) first one at = ap (part_of boxes levels nets) (sym at)
  rest-one (a ∷ b ∷ more) first one at = absurd (omega (arith, one))

  pub rest-more : (parts : List Network) → (length parts ≡ 1 → ⊥) → rest_of boxes levels nets parts ≡ parts_of boxes levels nets parts
  rest-more [] many = refl
  rest-more (a ∷ []) many = absurd (many refl)
  rest-more (a ∷ b ∷ more) many = refl

-- a box of the number is called, and there is no other
pub call_within : (boxes : List BoxProgram) (place number : ℕ) → number < length boxes → call boxes place number ≡ Some (net.Box place number)
call_within boxes place number within =
    let is : nat_lt number (length boxes) ≡ true = grind (arith, nat_tests, within) in
    ap (λ b. cond b (Some (net.Box place number)) None) is

pub call_past : (boxes : List BoxProgram) (place number : ℕ) → length boxes ≤ number → call boxes place number ≡ None
call_past boxes place number past =
    let is : nat_lt number (length boxes) ≡ false = grind (arith, nat_tests, past) in
    ap (λ b. cond b (Some (net.Box place number)) None) is
