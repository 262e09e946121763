-- Checks of labels, types and signatures find what breaks their rules.
use Rattle.std.proofs.Common.{ℕ, not, List, [], ◌∷◌, is_some, ◌⊎◌, inl, inr, refl, sym, ap, ◌∙◌, subst}
use Rattle.std.specs.FinMap as finite
use Rattle.sn_ast.specs.declared.label.Ident.{Ident}
use Rattle.sn_ast.specs.declared.label.LabelAt.{LabelAt}
use Rattle.sn_ast.specs.declared.label.Sig.TheVariants.{Arrow, Named as NamedSig}
use Rattle.sn_ast.specs.declared.label.TypePart.{TypePart}
use Rattle.sn_ast.specs.declared.label.TypePart.TheVariants.{Set, Named as NamedType}
use Rattle.sn_ast.specs.declared.label.Variant.{Variant}
use Rattle.sn_label_scope.specs.Labels.{label_at, no_repeats}
use Rattle.sn_label_scope.specs.Refusals.{required}
use Rattle.sn_label_scope.specs.declared.refusal.Reason.TheVariants.{Unknown, Twice}
use Rattle.sn_label_scope.specs.declared.refusal.Refusal.{Refusal}
use Rattle.sn_record.specs.LabelSet.{Labels, contains}
use Rattle.sn_scope.specs.Scopes.{signature_of, type_of}
use Rattle.sn_scope.specs.Types.{part_required, type_required}
use Rattle.sn_scope.specs.declared.scopes.Scopes.{Scopes}
use Rattle.sn_scope_rules.specs.Labels.{LabelsBreak, PartBreaks, SigBreaks, TypeBreaks}
use Rattle.sn_scope_rules.specs.Labels.LabelsBreak.{label_twice}
use Rattle.sn_scope_rules.specs.Labels.PartBreaks.{in_variant, no_such_type}
use Rattle.sn_scope_rules.specs.Labels.TypeBreaks.{in_part}
use Rattle.sn_scope_rules.specs.Labels.SigBreaks.{in_input, in_output, no_such_signature}
use Rattle.sn_scope_rules.proofs.Checks.{Among, Fails, Finds, finds_both, finds_each, finds_nothing, finds_required, finds_same, held_from}
use Rattle.sn_scope_rules.proofs.Held.{HeldLabels, HeldPart, HeldType}
use Rattle.sn_scope_rules.proofs.Texts.{contains_label}
use Rattle.sn_scope_rules.specs.Visible.{Around}
use Rattle.sn_scope_rules.proofs.Visible.{Agrees, signature_stands, type_stands}
use Rattle.sn_scope_rules.proofs.Standing.{Behind, behind_cases, behind_first, behind_in, behind_more, none_behind}

module _ (names : List (List ℕ)) where
  abbrev with_label : Labels → LabelAt → Labels
  with_label set label = finite.insert set (label_at names label) tt

  abbrev Again : Refusal → Labels → LabelAt → Type 0
  Again r set label = Fails (not (contains set (label_at names label))) Twice label.name.at r

  labels_find : (set : Labels) (labels : List LabelAt) → Finds (no_repeats names set labels) (λ r. Behind with_label set (Again r) labels)
  labels_find set [] = finds_nothing (λ r. Behind with_label set (Again r) []) (λ r one. none_behind one.1 one.0 one.2)
  labels_find set (label ∷ labels) = finds_same (no_repeats names set (label ∷ labels)) (λ r. Again r set label ⊎ Behind with_label (with_label set label) (Again r) labels) (λ r. Behind with_label set (Again r) (label ∷ labels))
      (finds_both (required (not (contains set (label_at names label))) Twice label.name.at) (no_repeats names (with_label set label) labels) (λ r. Again r set label) (λ r. Behind with_label (with_label set label) (Again r) labels)
      (finds_required (not (contains set (label_at names label))) Twice label.name.at) (labels_find (with_label set label) labels))
      to (λ r one. behind_cases with_label set (Again r) label one.1 labels one.0 one.2 one.3)
    where
      to : (r : Refusal) → Again r set label ⊎ Behind with_label (with_label set label) (Again r) labels → Behind with_label set (Again r) (label ∷ labels)
      to r (inl one) = behind_first with_label set (Again r) label labels one
      to r (inr one) = behind_more with_label set (Again r) label labels one

  labels_to : (labels : List LabelAt) → HeldLabels names labels → (r : Refusal) → Behind with_label finite.empty (Again r) labels → LabelsBreak labels r
  labels_to labels held r one = subst (LabelsBreak labels) one.3.1
      (label_twice one.2 (sym (contains_label names one.0 one.1.tag one.1.name.text (held one.1 (behind_in one.1 one.0 labels one.2))) ∙ held_from _ one.3.0))

  labels_from : (labels : List LabelAt) → HeldLabels names labels → (r : Refusal) → LabelsBreak labels r → Behind with_label finite.empty (Again r) labels
  labels_from labels held r (label_twice {before} {label} at again) =
      (before, label, at, (ap not (contains_label names before label.tag label.name.text (held label (behind_in label before labels at)) ∙ again), refl))

  pub labels_break : (labels : List LabelAt) → HeldLabels names labels → Finds (no_repeats names finite.empty labels) (LabelsBreak labels)
  labels_break labels held = finds_same (no_repeats names finite.empty labels) (λ r. Behind with_label finite.empty (Again r) labels) (LabelsBreak labels) (labels_find finite.empty labels) (labels_to labels held) (labels_from labels held)

  module _ (scopes : Scopes) (around : Around) (same : Agrees scopes around) where
    part_named : (name : Ident) (r : Refusal) → Fails (is_some (type_of scopes name.text)) Unknown name.at r → PartBreaks around (NamedType name) r
    part_named name r fails = subst (PartBreaks around (NamedType name)) fails.1 (no_such_type (sym (type_stands scopes around same name.text) ∙ fails.0))

    part_unnamed : (name : Ident) (r : Refusal) → PartBreaks around (NamedType name) r → Fails (is_some (type_of scopes name.text)) Unknown name.at r
    part_unnamed name r (no_such_type none) = (type_stands scopes around same name.text ∙ none, refl)

    part_labels : (variant : Variant) (r : Refusal) → PartBreaks around (Set variant) r → LabelsBreak variant.labels r
    part_labels variant r (in_variant one) = one

    part_finds : (part : TypePart) → HeldPart names part → Finds (λ least. part_required names scopes least part) (PartBreaks around part)
    part_finds (Set variant) held = finds_same (no_repeats names finite.empty variant.labels) (LabelsBreak variant.labels) (PartBreaks around (Set variant)) (labels_break variant.labels held) (λ r one. in_variant one) (part_labels variant)
    part_finds (NamedType name) held = finds_same (required (is_some (type_of scopes name.text)) Unknown name.at) (Fails (is_some (type_of scopes name.text)) Unknown name.at) (PartBreaks around (NamedType name))
        (finds_required (is_some (type_of scopes name.text)) Unknown name.at) (part_named name) (part_unnamed name)

    type_from : (parts : List TypePart) (r : Refusal) → TypeBreaks around parts r → Among (PartBreaks around) parts r
    type_from parts r (in_part {part} at one) = (part, at, one)

    pub type_finds : (parts : List TypePart) → HeldType names parts → Finds (type_required names scopes parts) (TypeBreaks around parts)
    type_finds parts held = finds_same (type_required names scopes parts) (Among (PartBreaks around) parts) (TypeBreaks around parts) (finds_each (part_required names scopes) (PartBreaks around) parts (λ part at. part_finds part (held part at)))
        (λ r one. in_part one.1 one.2) (type_from parts)

    -- a signature of two types, or the name of one
    sig_to : (input output : List TypePart) (r : Refusal) → TypeBreaks around input r ⊎ TypeBreaks around output r → SigBreaks around (Arrow input output) r
    sig_to input output r (inl one) = in_input one
    sig_to input output r (inr one) = in_output one

    sig_from : (input output : List TypePart) (r : Refusal) → SigBreaks around (Arrow input output) r → TypeBreaks around input r ⊎ TypeBreaks around output r
    sig_from input output r (in_input one) = inl one
    sig_from input output r (in_output one) = inr one

    pub arrow_finds : (input output : List TypePart) → HeldType names input → HeldType names output → Finds (λ least. type_required names scopes output (type_required names scopes input least)) (SigBreaks around (Arrow input output))
    arrow_finds input output held_in held_out = finds_same (λ least. type_required names scopes output (type_required names scopes input least)) (λ r. TypeBreaks around input r ⊎ TypeBreaks around output r) (SigBreaks around (Arrow input output))
        (finds_both (type_required names scopes input) (type_required names scopes output) (TypeBreaks around input) (TypeBreaks around output) (type_finds input held_in) (type_finds output held_out)) (sig_to input output) (sig_from input output)

    sig_named : (name : Ident) (r : Refusal) → Fails (is_some (signature_of scopes name.text)) Unknown name.at r → SigBreaks around (NamedSig name) r
    sig_named name r fails = subst (SigBreaks around (NamedSig name)) fails.1 (no_such_signature (sym (signature_stands scopes around same name.text) ∙ fails.0))

    sig_unnamed : (name : Ident) (r : Refusal) → SigBreaks around (NamedSig name) r → Fails (is_some (signature_of scopes name.text)) Unknown name.at r
    sig_unnamed name r (no_such_signature none) = (signature_stands scopes around same name.text ∙ none, refl)

    pub named_finds : (name : Ident) → Finds (required (is_some (signature_of scopes name.text)) Unknown name.at) (SigBreaks around (NamedSig name))
    named_finds name = finds_same (required (is_some (signature_of scopes name.text)) Unknown name.at) (Fails (is_some (signature_of scopes name.text)) Unknown name.at) (SigBreaks around (NamedSig name))
        (finds_required (is_some (signature_of scopes name.text)) Unknown name.at) (sig_named name) (sig_unnamed name)
