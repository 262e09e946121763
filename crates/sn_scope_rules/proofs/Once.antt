-- What a type, a signature and the program's net are is one thing.
use Rattle.std.proofs.Common.{◌≡◌, ℕ, List, ◌∷◌, ◌++◌, Some, refl, sym, ap, ◌∙◌, subst}
use Rattle.std.proofs.lemmas.Option.{same_Some}
use Rattle.sn_ast.specs.declared.declaration.Decl.{Decl}
use Rattle.sn_ast.specs.declared.declaration.Decl.TheOpen.{Decl-F}
use Rattle.sn_ast.specs.declared.declaration.Decl.TheViews.{out-Decl}
use Rattle.sn_ast.specs.declared.declaration.NetDecl.{NetDecl}
use Rattle.sn_ast.specs.declared.label.Ident.{Ident}
use Rattle.sn_ast.specs.declared.label.Sig.{Sig}
use Rattle.sn_ast.specs.declared.label.TypePart.{TypePart}
use Rattle.sn_label_scope.specs.Labels.{variant_at}
use Rattle.sn_record.specs.LabelSet.{Labels}
use Rattle.sn_scope_rules.specs.Types.{SignatureOf, VariantsOf, once}
use Rattle.sn_scope_rules.specs.Types.VariantsOf.{named, no_part, written}
use Rattle.sn_scope_rules.specs.Types.SignatureOf.{arrow, named_signature}
use Rattle.sn_scope_rules.specs.Visible.{Around, found_at}

parts_of : List TypePart → Decl-F Decl NetDecl → List TypePart
parts_of other (Decl-F.BoxDecl declaration) = other
parts_of other (Decl-F.NetDecl net) = other
parts_of other (Decl-F.TypeDecl name parts) = parts
parts_of other (Decl-F.SigDecl name sig) = other

sig_of : Sig → Decl-F Decl NetDecl → Sig
sig_of other (Decl-F.BoxDecl declaration) = other
sig_of other (Decl-F.NetDecl net) = other
sig_of other (Decl-F.TypeDecl name parts) = other
sig_of other (Decl-F.SigDecl name sig) = sig

-- what a name stands for is one declaration, at one place
same_found : (around : Around) (name : List ℕ) (a b : Decl × Around) → found_at around name ≡ Some a → found_at around name ≡ Some b → b ≡ a
same_found around name a b one other = same_Some b a (sym other ∙ one)

same_parts : (a b : Decl) (own other : Ident) (xs ys : List TypePart) → b ≡ a → out-Decl a ≡ Decl-F.TypeDecl own xs → out-Decl b ≡ Decl-F.TypeDecl other ys → ys ≡ xs
unfolding parts_of
same_parts a b own other xs ys same one two = ap (parts_of xs) (sym two ∙ ap out-Decl same ∙ one)

same_sig : (a b : Decl) (own other : Ident) (x y : Sig) → b ≡ a → out-Decl a ≡ Decl-F.SigDecl own x → out-Decl b ≡ Decl-F.SigDecl other y → y ≡ x
unfolding sig_of
same_sig a b own other x y same one two = ap (sig_of x) (sym two ∙ ap out-Decl same ∙ one)

module _ (names : List (List ℕ)) where
  pub variants_once : (around : Around) (parts : List TypePart) (xs : List Labels) → VariantsOf names around parts xs → (ys : List Labels) → VariantsOf names around parts ys → xs ≡ ys
  variants_once around parts xs no_part ys no_part = refl
  variants_once around parts xs (written {variant} rest) ys (written {more = more'} rest') = ap (λ more. variant_at names variant ∷ more) (variants_once _ _ _ rest more' rest')
  variants_once around parts xs (named {there} {name} {own} {decl} {inner = inner} found at one rest) ys
      (named {there = there'} {own = own'} {decl = decl'} {inner = inner'} {some = some'} {more = more'} found' at' one' rest') =
      λ i. once (variants_once _ _ _ one some' moved i) ++ variants_once _ _ _ rest more' rest' i
    where
      same : Path (Decl × Around) (decl', there') (decl, there)
      same = same_found around name.text (decl, there) (decl', there') found found'

      moved : VariantsOf names there inner some'
      moved = subst (λ a. VariantsOf names a inner some') (ap (λ (f : Decl × Around). f.1) same)
          (subst (λ ps. VariantsOf names there' ps some') (same_parts decl decl' own own' inner inner' (ap (λ (f : Decl × Around). f.0) same) at at') one')

  pub signature_once : (around : Around) (sig : Sig) (i o : List Labels) → SignatureOf names around sig i o → (i' o' : List Labels) → SignatureOf names around sig i' o'
      → (i ≡ i') × (o ≡ o')
  signature_once around sig i o (arrow {input} {output} {inputs} {outputs} one other) i' o' (arrow {inputs = inputs'} {outputs = outputs'} one' other') =
      (ap once (variants_once around input inputs one inputs' one'), ap once (variants_once around output outputs other outputs' other'))
  signature_once around sig i o (named_signature {there} {name} {own} {decl} {sig = inner} found at one) i' o'
      (named_signature {there = there'} {own = own'} {decl = decl'} {sig = inner'} found' at' one') =
      signature_once _ _ _ _ one i' o' moved
    where
      same : Path (Decl × Around) (decl', there') (decl, there)
      same = same_found around name.text (decl, there) (decl', there') found found'

      moved : SignatureOf names there inner i' o'
      moved = subst (λ a. SignatureOf names a inner i' o') (ap (λ (f : Decl × Around). f.1) same)
          (subst (λ s. SignatureOf names there' s i' o') (same_sig decl decl' own own' inner inner' (ap (λ (f : Decl × Around). f.0) same) at at') one')
