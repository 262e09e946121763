-- What is refused in labels, types and signatures.
use Rattle.std.specs.Prelude.{◌≡◌, ℕ, Bool, true, false, ◌&&◌, List}
use Rattle.std.specs.List.{list_any}
use Rattle.std.specs.Str.{bytes_eq}
use Rattle.sn_ast.specs.declared.label.Ident.{Ident}
use Rattle.sn_ast.specs.declared.label.LabelAt.{LabelAt}
use Rattle.sn_ast.specs.declared.label.Sig.{Sig}
use Rattle.sn_ast.specs.declared.label.Sig.TheVariants.{Arrow, Named as NamedSig}
use Rattle.sn_ast.specs.declared.label.TypePart.{TypePart}
use Rattle.sn_ast.specs.declared.label.TypePart.TheVariants.{Set, Named as NamedType}
use Rattle.sn_ast.specs.declared.label.Variant.{Variant}
use Rattle.sn_box_scope.specs.Variables.{same_kind}
use Rattle.sn_label_scope.specs.declared.refusal.Refusal.{Refusal}
use Rattle.sn_scope_rules.specs.Refusals.{twice, unknown}
use Rattle.sn_scope_rules.specs.Standing.{StandsBehind, StandsIn}
use Rattle.sn_scope_rules.specs.Visible.{Around, is_signature, is_type, stands_for_a}

-- the label is the tag, or the field, of the name
abbrev pub is_label : Bool → List ℕ → LabelAt → Bool
is_label tag name label = same_kind label.tag tag && bytes_eq label.name.text name

-- one of the labels is that
abbrev pub has_label : List LabelAt → Bool → List ℕ → Bool
has_label labels tag name = list_any (is_label tag name) labels

-- a label that is among those before it
pub data LabelsBreak (labels : List LabelAt) : Refusal → Type 0 where
  label_twice : {before : List LabelAt} {label : LabelAt} →
      StandsBehind label before labels → has_label before label.tag label.name.text ≡ true → LabelsBreak labels (twice label.name.at)

-- a label twice in a variant, or a name that is not that of a visible type
pub data PartBreaks (around : Around) : TypePart → Refusal → Type 0 where
  in_variant : {variant : Variant} {r : Refusal} → LabelsBreak variant.labels r → PartBreaks around (Set variant) r
  no_such_type : {name : Ident} → stands_for_a is_type around name.text ≡ false → PartBreaks around (NamedType name) (unknown name.at)

-- what is refused in a part of a type
pub data TypeBreaks (around : Around) (parts : List TypePart) : Refusal → Type 0 where
  in_part : {part : TypePart} {r : Refusal} → StandsIn part parts → PartBreaks around part r → TypeBreaks around parts r

-- what is refused in the types of a signature, or a name that is not that of a visible signature
pub data SigBreaks (around : Around) : Sig → Refusal → Type 0 where
  in_input : {input output : List TypePart} {r : Refusal} → TypeBreaks around input r → SigBreaks around (Arrow input output) r
  in_output : {input output : List TypePart} {r : Refusal} → TypeBreaks around output r → SigBreaks around (Arrow input output) r
  no_such_signature : {name : Ident} → stands_for_a is_signature around name.text ≡ false → SigBreaks around (NamedSig name) (unknown name.at)
