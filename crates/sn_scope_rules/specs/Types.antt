-- Which variants a type has where it stands, and which types a signature.
use Rattle.std.specs.Prelude.{◌≡◌, ℕ, List, [], ◌∷◌, ◌++◌, Some}
use Rattle.std.specs.List.{fold}
use Rattle.sn_ast.specs.declared.declaration.Decl.{Decl}
use Rattle.sn_ast.specs.declared.declaration.Decl.TheOpen.{Decl-F}
use Rattle.sn_ast.specs.declared.declaration.Decl.TheViews.{out-Decl}
use Rattle.sn_ast.specs.declared.label.Ident.{Ident}
use Rattle.sn_ast.specs.declared.label.Sig.{Sig}
use Rattle.sn_ast.specs.declared.label.Sig.TheVariants.{Arrow, Named as NamedSig}
use Rattle.sn_ast.specs.declared.label.TypePart.{TypePart}
use Rattle.sn_ast.specs.declared.label.TypePart.TheVariants.{Set, Named as NamedType}
use Rattle.sn_ast.specs.declared.label.Variant.{Variant}
use Rattle.sn_label_scope.specs.Labels.{variant_at}
use Rattle.sn_record.specs.LabelSet.{Labels}
use Rattle.sn_scope.specs.Variants.{added}
use Rattle.sn_scope_rules.specs.Visible.{Around, found_at}

-- each variant once, in the order of the first places
abbrev pub once : List Labels → List Labels
once variants = fold added [] variants

-- the variants of the parts of a type, from left to right: a name of a type stands for the variants of that type, read where that type stands
pub data VariantsOf (names : List (List ℕ)) : Around → List TypePart → List Labels → Type 0 where
  no_part : {around : Around} → VariantsOf names around [] []
  written : {around : Around} {variant : Variant} {parts : List TypePart} {more : List Labels} →
      VariantsOf names around parts more → VariantsOf names around (Set variant ∷ parts) (variant_at names variant ∷ more)
  named : {around there : Around} {name own : Ident} {decl : Decl} {parts inner : List TypePart} {some more : List Labels} →
      found_at around name.text ≡ Some (decl, there) → out-Decl decl ≡ Decl-F.TypeDecl own inner → VariantsOf names there inner some → VariantsOf names around parts more →
      VariantsOf names around (NamedType name ∷ parts) (once some ++ more)

-- the input and the output of a signature: a name of a signature stands for that signature, read where that one stands
pub data SignatureOf (names : List (List ℕ)) : Around → Sig → List Labels → List Labels → Type 0 where
  arrow : {around : Around} {input output : List TypePart} {inputs outputs : List Labels} →
      VariantsOf names around input inputs → VariantsOf names around output outputs → SignatureOf names around (Arrow input output) (once inputs) (once outputs)
  named_signature : {around there : Around} {name own : Ident} {decl : Decl} {sig : Sig} {input output : List Labels} →
      found_at around name.text ≡ Some (decl, there) → out-Decl decl ≡ Decl-F.SigDecl own sig → SignatureOf names there sig input output →
      SignatureOf names around (NamedSig name) input output
