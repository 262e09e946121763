-- What flows through a network that was made slim.
use Rattle.std.proofs.Common.{◌≡◌, ℕ, zero, suc, Bool, true, false, cond, List, [], ◌∷◌, ◌++◌, length, map, refl, sym, ap, ◌∙◌, subst, subst₂}
use Rattle.std.specs.Prelude.{Option, None, Some}
use Rattle.std.specs.List.{Contains, flat_map}
use Rattle.std.specs.FinMap as finite
use Rattle.std.proofs.lemmas.List.{nil_from_length}
use Rattle.sn_record.specs.LabelSet.{Labels, minus, union}
use Rattle.sn_net.specs.declared.expr.BoxProgram.{BoxProgram}
use Rattle.sn_net.specs.declared.filter.Filter.{Filter as FilterForm}
use Rattle.sn_net.specs.declared.filter.Template.{Template}
use Rattle.sn_net.specs.declared.net.Net.{Net}
use Rattle.sn_net.specs.declared.net.Net.TheFolds.{fold-roll-Net, ind-Net, map-Net}
use Rattle.sn_net.specs.declared.net.Net.TheOpen.{Net-F}
use Rattle.sn_net.specs.declared.net.Net.TheVariants.{Box, Filter as FilterLeaf, Sync, Choice as ChoiceLeaf, Star as StarLeaf, Split as SplitLeaf}
use Rattle.sn_net.specs.declared.net.Net.TheViews.{roll-Net}
use Rattle.sn_net.specs.Face.{variant_of}
use Rattle.sn_net.specs.Filter.{every_template, target}
use Rattle.sn_typing.specs.Outline.{Outline, Choice, Series, Split, Star, branch_of, filter_outline, is_guarded, nowhere, outline, outline_step, template_variant}
use Rattle.sn_typing.specs.Flow.{Flows, Safe}
use Rattle.sn_typing.proofs.Forms.{outline-Box, outline-Filter, outline-Sync, outline-Serial, outline-Choice, outline-Star, outline-Split}
use Rattle.sn_sound.proofs.Scores.{contains_head}
use Rattle.sn_planned.specs.Refined.{RefinesSafe}
use Rattle.sn_planned.specs.Slim.{Slim, alone, before, begun, both, gives_back, sets_nothing, slim, slim_step, slimmed, unless_identity}
use Rattle.sn_planned.proofs.Refined.{safely_same, safely_then, safely_series, safely_star, safely_split, safely_choice, union-nothing}
use Rattle.sn_planned.proofs.Slim.{is_identity, size_zero}

-- what flows in flows out, where it is safe
abbrev Passes : Outline → Type 0
Passes o = (v : Labels) → Safe o v → Flows o v v

before_passing : (p o : Outline) → Passes p → RefinesSafe o (Series p o)
before_passing p o passes v (here, behind) = record { flows = λ u flow. (v, passes v here, flow); safe = behind v (passes v here) }

behind_passing : (o p : Outline) → Passes p → RefinesSafe o (Series o p)
behind_passing o p passes v (here, behind) = record { flows = λ u flow. (u, flow, passes u (behind u flow)); safe = here }

passes_series : (o p : Outline) → Passes o → Passes p → Passes (Series o p)
passes_series o p first second v (here, behind) = (v, first v here, second v (behind v (first v here)))

nothing_set : (templates : List Template) → sets_nothing templates ≡ true → Contains (map template_variant templates) finite.empty
nothing_set [] e = cc
nothing_set (template ∷ []) e =
    subst (λ (set : Labels). Contains (set ∷ []) finite.empty) (sym (ap (λ parts. variant_of (map target parts)) (nil_from_length template.parts (size_zero (length template.parts) e))))
    (contains_head finite.empty [])
nothing_set (template ∷ (other ∷ templates)) e = cc

filter_passes : (filter : FilterForm) → gives_back filter ≡ true → Passes (filter_outline filter)
filter_passes filter is v takes =
    let identity = is_identity filter is in (
      takes,
      (finite.empty, outputs identity.arms, union-nothing v ∙ ap (λ (w : Labels). union finite.empty (minus v w)) (sym identity.pattern)),
    )
  where
    outputs : filter.arms ≡ [] → Contains (map template_variant (every_template filter)) finite.empty
    outputs none = subst (λ arms. Contains (map template_variant (flat_map (λ arm. arm.templates) arms ++ filter.templates)) finite.empty) (sym none) (nothing_set filter.templates (is_identity filter is).templates)

module _ (boxes : List BoxProgram) where
  -- what is left of an outline, if it is behind another
  abbrev Left : Option Net → Outline → Type 0
  Left None o = Passes o
  Left (Some net) o = RefinesSafe (outline boxes net) o

  abbrev Slims : Slim → Outline → Type 0
  Slims slim o = RefinesSafe (outline boxes slim.first) o × Left slim.behind o

  before_refines : (net : Net) (rest : Option Net) (o p : Outline) → RefinesSafe (outline boxes net) o → Left rest p → RefinesSafe (outline boxes (before net rest)) (Series o p)
  before_refines net None o p here passes = safely_then (outline boxes net) o (Series o p) here (behind_passing o p passes)
  before_refines net (Some next) o p here there =
      subst (λ row. RefinesSafe row (Series o p)) (sym (outline-Serial boxes net next)) (safely_series (outline boxes net) o (outline boxes next) p here there)

  both_left : (first rest : Option Net) (o p : Outline) → Left first o → Left rest p → Left (both first rest) (Series o p)
  both_left None None o p one two = passes_series o p one two
  both_left None (Some next) o p one two = safely_then (outline boxes next) p (Series o p) two (before_passing o p one)
  both_left (Some net) rest o p one two = before_refines net rest o p one two

  alone_left : (net : Net) (o : Outline) → RefinesSafe (outline boxes net) o → Slims (alone net) o
  alone_left net o fewer = (fewer, fewer)

  filter_left : (filter : FilterForm) → Left (unless_identity filter) (filter_outline filter)
  filter_left filter = at (gives_back filter) refl
    where
      at : (b : Bool) → gives_back filter ≡ b → Left (cond b None (Some (FilterLeaf filter))) (filter_outline filter)
      at true is = filter_passes filter is
      at false is = subst (λ o. RefinesSafe o (filter_outline filter)) (sym (outline-Filter boxes filter)) (safely_same (filter_outline filter))

  abbrev Keeps : Net → Type 0
  Keeps net = Slims (slim net) (outline boxes net)

  each_kept : (nets : List ((net : Net) × Keeps net)) (i : ℕ)
      → RefinesSafe (branch_of (map (outline boxes) (map begun (map slim (map (λ e. e.0) nets)))) i) (branch_of (map (outline boxes) (map (λ e. e.0) nets)) i)
  each_kept [] i = safely_same (nowhere 0)
  each_kept (net ∷ nets) zero = net.1.0
  each_kept (net ∷ nets) (suc i) = each_kept nets i

  rolled : (x : Net-F Net) (o : Outline) → Slims (slim_step (map-Net _ _ slim x)) o → o ≡ outline_step boxes (map-Net _ _ (outline boxes) x) → Keeps (roll-Net x)
  rolled x o slims is = subst₂ Slims (sym (fold-roll-Net Slim slim_step x)) (is ∙ sym (fold-roll-Net Outline (outline_step boxes) x)) slims

  slims : (net : Net) → Keeps net
  slims = ind-Net Keeps (λ x y is. subst (λ z. Keeps (roll-Net z)) is
      (elim y as (λ z. Keeps (roll-Net (map-Net _ _ (λ e. e.0) z))) [
        | Net-F.Box place number ↦
            rolled (Net-F.Box place number) (outline boxes (Box place number)) (alone_left (Box place number) (outline boxes (Box place number)) (safely_same (outline boxes (Box place number)))) (outline-Box boxes place number)
        | Net-F.Filter filter ↦
            rolled (Net-F.Filter filter) (filter_outline filter)
            (subst (λ o. RefinesSafe o (filter_outline filter)) (sym (outline-Filter boxes filter)) (safely_same (filter_outline filter)), filter_left filter)
            refl
        | Net-F.Sync place patterns ↦
            rolled (Net-F.Sync place patterns) (outline boxes (Sync place patterns)) (alone_left (Sync place patterns) (outline boxes (Sync place patterns)) (safely_same (outline boxes (Sync place patterns)))) (outline-Sync boxes place patterns)
        | Net-F.Serial left right ↦
            rolled (Net-F.Serial left.0 right.0) (Series (outline boxes left.0) (outline boxes right.0)) (
              before_refines (slimmed left.0) (slim right.0).behind (outline boxes left.0) (outline boxes right.0) left.1.0 right.1.1,
              both_left (slim left.0).behind (slim right.0).behind (outline boxes left.0) (outline boxes right.0) left.1.1 right.1.1,
            )
            refl
        | Net-F.Choice place merge branches faces ↦
            let nets = map (λ e. e.0) branches in
            let made = map begun (map slim nets) in
            rolled (Net-F.Choice place merge nets faces) (Choice place faces (branch_of (map (outline boxes) nets)))
            (alone_left (ChoiceLeaf place merge made faces) (Choice place faces (branch_of (map (outline boxes) nets)))
            (subst (λ o. RefinesSafe o (Choice place faces (branch_of (map (outline boxes) nets)))) (sym (outline-Choice boxes place merge made faces))
            (safely_choice place faces (branch_of (map (outline boxes) made)) (branch_of (map (outline boxes) nets)) (each_kept branches))))
            refl
        | Net-F.Star place merge body exit guard ↦
            rolled (Net-F.Star place merge body.0 exit guard) (Star exit (is_guarded guard) (outline boxes body.0))
            (alone_left (StarLeaf place merge (slimmed body.0) exit guard) (Star exit (is_guarded guard) (outline boxes body.0))
            (subst (λ o. RefinesSafe o (Star exit (is_guarded guard) (outline boxes body.0))) (sym (outline-Star boxes place merge (slimmed body.0) exit guard))
            (safely_star exit (is_guarded guard) (outline boxes (slimmed body.0)) (outline boxes body.0) body.1.0)))
            refl
        | Net-F.Split place merge body id ↦
            rolled (Net-F.Split place merge body.0 id) (Split place id (outline boxes body.0))
            (alone_left (SplitLeaf place merge (slimmed body.0) id) (Split place id (outline boxes body.0))
            (subst (λ o. RefinesSafe o (Split place id (outline boxes body.0))) (sym (outline-Split boxes place merge (slimmed body.0) id))
            (safely_split place id (outline boxes (slimmed body.0)) (outline boxes body.0) body.1.0)))
            refl
      ]))

  pub slim_refines : (net : Net) → RefinesSafe (outline boxes (slimmed net)) (outline boxes net)
  slim_refines net = (slims net).0
