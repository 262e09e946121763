-- The variants of a type are those of its parts.
use Rattle.std.proofs.Common.{◌≡◌, ℕ, Bool, true, false, List, [], ◌∷◌, ◌++◌, Option, Some, None, option_map, slice_get, unwrap_or, fold, refl, sym, ap, ◌∙◌}
use Rattle.std.proofs.lemmas.List.Sums.{fold-append}
use Rattle.std.proofs.lemmas.Option.{get_or_from_slice_get}
use Rattle.sn_ast.specs.declared.declaration.Decl.{Decl}
use Rattle.sn_ast.specs.declared.declaration.Decl.TheOpen.{Decl-F}
use Rattle.sn_ast.specs.declared.declaration.Decl.TheViews.{out-Decl}
use Rattle.sn_ast.specs.declared.declaration.NetDecl.{NetDecl}
use Rattle.sn_ast.specs.declared.label.Ident.{Ident}
use Rattle.sn_ast.specs.declared.label.TypePart.{TypePart}
use Rattle.sn_ast.specs.declared.label.TypePart.TheVariants.{Set, Named as NamedType}
use Rattle.sn_label_scope.specs.Labels.{variant_at}
use Rattle.sn_label_scope.specs.declared.refusal.Refusal.{Refusal}
use Rattle.sn_record.specs.LabelSet.{Labels}
use Rattle.sn_scope.specs.Scopes.{meaning_of, type_number}
use Rattle.sn_scope.specs.Types.{part_added, type_at, variants_of}
use Rattle.sn_scope.specs.Variants.{added}
use Rattle.sn_scope.specs.declared.scopes.Meaning.{Meaning}
use Rattle.sn_scope.specs.declared.scopes.Meaning.TheVariants as meaning
use Rattle.sn_scope.specs.declared.scopes.Scopes.{Scopes}
use Rattle.sn_scope_rules.specs.Labels.{TypeBreaks}
use Rattle.sn_scope_rules.specs.Labels.PartBreaks.{no_such_type}
use Rattle.sn_scope_rules.specs.Labels.TypeBreaks.{in_part}
use Rattle.sn_scope_rules.specs.Standing.StandsIn.{here, later}
use Rattle.sn_scope_rules.specs.Types.{VariantsOf, once}
use Rattle.sn_scope_rules.specs.Types.VariantsOf.{named, no_part, written}
use Rattle.sn_scope_rules.specs.Visible.{Around, found_at, is_type, stands_for_a}
use Rattle.sn_scope_rules.proofs.Places.{decl_of, found_stands}

-- a name of a kind that stands for something is found
abbrev FoundKind : (Decl-F Decl NetDecl → Bool) → Around → List ℕ → Type 0
FoundKind kind around name = (decl : Decl) × (there : Around) × (found_at around name ≡ Some (decl, there)) × (kind (out-Decl decl) ≡ true)

abbrev is_kind : (Decl-F Decl NetDecl → Bool) → Option Decl → Bool
is_kind kind o = unwrap_or (option_map (λ decl. kind (out-Decl decl)) o) false

pub found_kind : (kind : Decl-F Decl NetDecl → Bool) (around : Around) (name : List ℕ) → (stands_for_a kind around name ≡ false → ⊥) → FoundKind kind around name
found_kind kind around name stands = cases (found_at around name) refl
  where
    by_kind : (decl : Decl) (there : Around) → found_at around name ≡ Some (decl, there) → (b : Bool) → kind (out-Decl decl) ≡ b → FoundKind kind around name
    by_kind decl there is true right = (decl, there, is, right)
    by_kind decl there is false wrong = absurd (stands (ap (is_kind kind) (sym (found_stands around name) ∙ ap (option_map decl_of) is) ∙ wrong))

    cases : (found : Option (Decl × Around)) → found_at around name ≡ found → FoundKind kind around name
    cases None none = absurd (stands (ap (is_kind kind) (sym (found_stands around name) ∙ ap (option_map decl_of) none)))
    cases (Some found) is = by_kind found.0 found.1 is (kind (out-Decl found.0)) refl

-- the table has a type by its number
abbrev pub TypeMeans : List (List ℕ) → List (List Labels) → Option Meaning → List TypePart → Around → Type 0
TypeMeans names types m parts there = (k : ℕ) × (vs : List Labels) × (m ≡ Some (meaning.«Type» k)) × VariantsOf names there parts vs × (slice_get types k ≡ Some (once vs))

abbrev pub SeesType : List (List ℕ) → List (List Labels) → Option Meaning → Decl-F Decl NetDecl → Around → Type 0
SeesType names types m (Decl-F.BoxDecl declaration) there = Unit {0}
SeesType names types m (Decl-F.NetDecl called) there = Unit {0}
SeesType names types m (Decl-F.TypeDecl name parts) there = TypeMeans names types m parts there
SeesType names types m (Decl-F.SigDecl name sig) there = Unit {0}

module _ (names : List (List ℕ)) (types : List (List Labels)) (scopes : Scopes) (around : Around)
    (sees : (n : List ℕ) (decl : Decl) (there : Around) → found_at around n ≡ Some (decl, there) → SeesType names types (meaning_of scopes n) (out-Decl decl) there) where
  abbrev Gives : List TypePart → Type 0
  Gives parts = (vs : List Labels) × VariantsOf names around parts vs × ((before : List Labels) → fold (part_added names scopes types) before parts ≡ fold added before vs)

  named_gives : (name : Ident) (parts : List TypePart) → (stands_for_a is_type around name.text ≡ false → ⊥) → Gives parts → Gives (NamedType name ∷ parts)
  named_gives name parts stands rest =
      let found = found_kind is_type around name.text stands in
      by_form found.0 found.1 found.2 (out-Decl found.0) refl found.3 (sees name.text found.0 found.1 found.2)
    where
      by_form : (decl : Decl) (there : Around) → found_at around name.text ≡ Some (decl, there) → (x : Decl-F Decl NetDecl) → out-Decl decl ≡ x → is_type x ≡ true
          → SeesType names types (meaning_of scopes name.text) x there
          → Gives (NamedType name ∷ parts)
      by_form decl there is (Decl-F.BoxDecl declaration) at kind seen = cc
      by_form decl there is (Decl-F.NetDecl called) at kind seen = cc
      by_form decl there is (Decl-F.TypeDecl own inner) at kind seen = (
        once seen.1 ++ rest.0,
        named is at seen.3 rest.1,
        λ before. ap (λ vs. fold (part_added names scopes types) (fold added before vs) parts) (ap (λ m. variants_of types (type_number m)) seen.2
            ∙ get_or_from_slice_get types seen.0 (once seen.1) [] seen.4)
            ∙ rest.2 (fold added before (once seen.1)) ∙ sym (fold-append added before (once seen.1) rest.0),
      )
      by_form decl there is (Decl-F.SigDecl own sig) at kind seen = cc

  gives : (parts : List TypePart) → ((r : Refusal) → TypeBreaks around parts r → ⊥) → Gives parts
  gives [] fine = ([], no_part, λ before. refl)
  gives (Set variant ∷ parts) fine =
      let rest = gives parts (λ r one. later_part r one) in
      (variant_at names variant ∷ rest.0, written rest.1, λ before. rest.2 (added before (variant_at names variant)))
    where
      later_part : (r : Refusal) → TypeBreaks around parts r → ⊥
      later_part r (in_part at one) = fine r (in_part (later at) one)
  gives (NamedType name ∷ parts) fine = named_gives name parts (λ wrong. fine _ (in_part here (no_such_type wrong))) (gives parts (λ r one. later_part r one))
    where
      later_part : (r : Refusal) → TypeBreaks around parts r → ⊥
      later_part r (in_part at one) = fine r (in_part (later at) one)

  -- the variants of the parts of a type in which nothing is refused
  pub type_gives : (parts : List TypePart) → ((r : Refusal) → TypeBreaks around parts r → ⊥)
      → (vs : List Labels) × VariantsOf names around parts vs × (type_at names scopes types parts ≡ once vs)
  type_gives parts fine = let all = gives parts fine in (all.0, all.1, all.2 [])
