-- The tree of a well-formed network follows its outline.
use Rattle.std.proofs.Common.{◌≡◌, ℕ, zero, suc, IfSome, List, [], ◌∷◌, map, slice_get, Option, None, Some, refl, sym, subst, subst₂}
use Rattle.std.specs.List.{All}
use Rattle.std.proofs.lemmas.List.Elements.{All-head, All-tail}
use Rattle.std.proofs.lemmas.Option.{none-some}
use Rattle.std.specs.FinMap as finite
use Rattle.sn_record.specs.LabelSet.{Labels}
use Rattle.sn_net.specs.declared.expr.BoxProgram.{BoxProgram}
use Rattle.sn_net.specs.declared.net.Net.{Net}
use Rattle.sn_net.specs.declared.net.Net.TheOpen.{Net-F}
use Rattle.sn_net.specs.declared.net.Net.TheFolds.{fold-roll-Net, ind-Net, map-Net}
use Rattle.sn_net.specs.declared.net.Net.TheViews.{roll-Net}
use Rattle.sn_net.specs.Boxes.{IsClosedBox}
use Rattle.sn_net.specs.Cell.{new_cell}
use Rattle.sn_net.specs.Dispatchers.{Network}
use Rattle.sn_net.specs.Face.{variant_of}
use Rattle.sn_net.specs.Filter.{every_template}
use Rattle.sn_net.specs.WellFormed.{IsWellFormed}
use Rattle.sn_net.proofs.Sound.{level_sound, parts_formed}
use Rattle.sn_model.specs.Components.{alone, answering, call_record, cell}
use Rattle.sn_model.specs.Meaning.{Setting, tree, tree_step}
use Rattle.sn_typing.specs.Outline.{Outline, box_outline, branch_of, outline, outline_step, template_variant}
use Rattle.sn_typing.specs.Flow.{Safe}
use Rattle.sn_sound.proofs.Follows.{Follows, Follows.{component, series, branches as follows_branches, levels, replicas}}
use Rattle.sn_sound.proofs.Cells.{cell_answers}
use Rattle.sn_sound.proofs.Evaluations.{box_answers}
use Rattle.sn_sound.proofs.Emitted.{no_fit}
use Rattle.sn_sound.proofs.Filters.{filter_answers}
use Rattle.sn_sound.proofs.Scores.{all_at}

box_follows : (place fuel : ℕ) (b : Option BoxProgram) → IfSome b IsClosedBox → Follows (box_outline place b) (alone (answering (call_record b place fuel)))
box_follows place fuel None closed =
    component place [] finite.empty [] _ _ (record { start = tt; records = λ q r v here takes matches. absurd (no_fit v takes.has); faults = λ q fault here. (here, refl) })
box_follows place fuel (Some program) closed =
    component place (variant_of program.input ∷ []) (variant_of program.input) (map variant_of program.outputs) _ _ (box_answers program place fuel closed)

module _ (s : Setting) where
  abbrev Keeps : Net → Type 0
  Keeps net = IsWellFormed s.boxes net → Follows (outline s.boxes net) (tree s net)

  rolled : (x : Net-F Net) → Follows (outline_step s.boxes (map-Net _ _ (outline s.boxes) x)) (tree_step s (map-Net _ _ (tree s) x)) → Follows (outline s.boxes (roll-Net x)) (tree s (roll-Net x))
  rolled x follows = subst₂ Follows (sym (fold-roll-Net Outline (outline_step s.boxes) x)) (sym (fold-roll-Net Network (tree_step s) x)) follows

  each_follows : (nets : List ((net : Net) × Keeps net)) → All (IsWellFormed s.boxes) (map (λ e. e.0) nets) → (i : ℕ) (t : Network)
      → slice_get (map (tree s) (map (λ e. e.0) nets)) i ≡ Some t → Follows (branch_of (map (outline s.boxes) (map (λ e. e.0) nets)) i) t
  each_follows [] formed i t there = absurd (none-some t there)
  each_follows (net ∷ nets) formed zero t there =
      let same : tree s net.0 ≡ t = cc in
      subst (λ (u : Network). Follows (outline s.boxes net.0) u) same (net.1 (All-head (IsWellFormed s.boxes) net.0 (map (λ e. e.0) nets) formed))
  each_follows (net ∷ nets) formed (suc i) t there = each_follows nets (All-tail (IsWellFormed s.boxes) net.0 (map (λ e. e.0) nets) formed) i t there

  missing : (nets : List ((net : Net) × Keeps net)) (i : ℕ) → slice_get (map (tree s) (map (λ e. e.0) nets)) i ≡ None
      → (v : Labels) → Safe (branch_of (map (outline s.boxes) (map (λ e. e.0) nets)) i) v → ⊥
  missing [] i none v safe = no_fit v safe.has
  missing (net ∷ nets) zero none v safe = none-some (tree s net.0) (sym none)
  missing (net ∷ nets) (suc i) none v safe = missing nets i none v safe

  box_closed : (number : ℕ) (b : Option BoxProgram) → slice_get s.boxes number ≡ b → All IsClosedBox s.boxes → IfSome b IsClosedBox
  box_closed number None is closed = tt
  box_closed number (Some program) is closed = all_at IsClosedBox s.boxes number program closed is

  pub net_follows : (net : Net) → Keeps net
  net_follows = ind-Net Keeps (λ x y is. subst (λ z. Keeps (roll-Net z)) is
      (elim y as (λ z. Keeps (roll-Net (map-Net _ _ (λ e. e.0) z))) [
        | Net-F.Box place number ↦ λ formed. rolled (Net-F.Box place number) (box_follows place s.fuel (slice_get s.boxes number) (box_closed number (slice_get s.boxes number) refl formed.closed))
        | Net-F.Filter filter ↦ λ formed. rolled (Net-F.Filter filter)
            (component filter.place (filter.pattern ∷ []) filter.pattern (map template_variant (every_template filter)) _ _ (filter_answers filter (level_sound s.boxes (Net-F.Filter filter) formed)))
        | Net-F.Sync place patterns ↦ λ formed. rolled (Net-F.Sync place patterns)
            (component place patterns finite.empty (finite.empty ∷ []) (cell place patterns) (new_cell patterns) (cell_answers place patterns))
        | Net-F.Serial left right ↦ λ formed.
            let whole = parts_formed s.boxes (Net-F.Serial left.0 right.0) formed in
            rolled (Net-F.Serial left.0 right.0)
            (series (outline s.boxes left.0) (outline s.boxes right.0) (tree s left.0) (tree s right.0)
            (left.1 (All-head (IsWellFormed s.boxes) left.0 (right.0 ∷ []) whole))
            (right.1 (All-head (IsWellFormed s.boxes) right.0 [] (All-tail (IsWellFormed s.boxes) left.0 (right.0 ∷ []) whole))))
        | Net-F.Choice place merge branches faces ↦ λ formed.
            let nets = map (λ e. e.0) branches in
            rolled (Net-F.Choice place merge nets faces)
            (follows_branches place faces (branch_of (map (outline s.boxes) nets)) merge (map (tree s) nets)
            (each_follows branches (parts_formed s.boxes (Net-F.Choice place merge nets faces) formed))
            (missing branches))
        | Net-F.Star place merge body exit guard ↦ λ formed.
            rolled (Net-F.Star place merge body.0 exit guard)
            (levels place exit guard (outline s.boxes body.0) merge (tree s body.0) s.depth
            (body.1 (All-head (IsWellFormed s.boxes) body.0 [] (parts_formed s.boxes (Net-F.Star place merge body.0 exit guard) formed))))
        | Net-F.Split place merge body id ↦ λ formed.
            rolled (Net-F.Split place merge body.0 id)
            (replicas place id (outline s.boxes body.0) merge (tree s body.0)
            (body.1 (All-head (IsWellFormed s.boxes) body.0 [] (parts_formed s.boxes (Net-F.Split place merge body.0 id) formed))))
      ]))
