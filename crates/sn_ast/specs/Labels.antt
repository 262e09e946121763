-- The grammar of labels, variants, tuples, types and signatures: which tokens spell which of them. In each relation the
-- last list is what follows.
use Rattle.std.specs.Prelude.{ℕ, List, [], ◌∷◌, ◌++◌, ◌≡◌, Some}
use Rattle.sn_ast.specs.Terminals.{label_of, closing}
use Rattle.sn_ast.specs.declared.label.LabelAt.{LabelAt}
use Rattle.sn_ast.specs.declared.label.Sig.{Sig}
use Rattle.sn_ast.specs.declared.label.Sig.TheVariants.{Arrow as ArrowSig, Named as NamedSig}
use Rattle.sn_ast.specs.declared.label.Tuple.{Tuple}
use Rattle.sn_ast.specs.declared.label.TypePart.{TypePart}
use Rattle.sn_ast.specs.declared.label.TypePart.TheVariants.{Set, Named}
use Rattle.sn_ast.specs.declared.label.Variant.{Variant}
use Rattle.sn_ast.specs.declared.label.Ident.{Ident}
use Rattle.sn_ast.specs.declared.terminal.Bracket.{Bracket}
use Rattle.sn_ast.specs.declared.terminal.Bracket.TheVariants.{Paren, Brace}
use Rattle.sn_ast.specs.declared.terminal.Symbol.{Symbol as SomeSymbol}
use Rattle.sn_ast.specs.declared.terminal.Symbol.TheVariants.{OpenBrace, OpenParen, Comma, Bar, Arrow}
use Rattle.sn_ast.specs.declared.terminal.Terminal.{Terminal}
use Rattle.sn_ast.specs.declared.terminal.Terminal.TheVariants.{Name, Symbol}

-- { "," label } and the closing bracket, after the labels so far
pub data MoreLabels (b : Bracket) : List LabelAt → List Terminal → List LabelAt → List Terminal → Type 0 where
  last_label : {at : ℕ} {s : SomeSymbol} {so_far : List LabelAt} {us : List Terminal} →
      s ≡ closing b → MoreLabels b so_far (Symbol s at ∷ us) so_far us
  more_labels : {at : ℕ} {x : Terminal} {l : LabelAt} {so_far all : List LabelAt} {us vs : List Terminal} →
      label_of x ≡ Some l → MoreLabels b (so_far ++ (l ∷ [])) us all vs → MoreLabels b so_far (Symbol Comma at ∷ x ∷ us) all vs

-- [ label { "," label } ] and the closing bracket
pub data Labels (b : Bracket) : List Terminal → List LabelAt → List Terminal → Type 0 where
  no_labels : {at : ℕ} {s : SomeSymbol} {us : List Terminal} → s ≡ closing b → Labels b (Symbol s at ∷ us) [] us
  labels : {x : Terminal} {l : LabelAt} {all : List LabelAt} {us vs : List Terminal} →
      label_of x ≡ Some l → MoreLabels b (l ∷ []) us all vs → Labels b (x ∷ us) all vs

-- variant = "{" [ label { "," label } ] "}"
pub data IsVariant : List Terminal → Variant → List Terminal → Type 0 where
  variant : {at : ℕ} {all : List LabelAt} {ts us : List Terminal} →
      Labels Brace ts all us → IsVariant (Symbol OpenBrace at ∷ ts) (record { labels = all; at = at }) us

-- tuple = "(" [ label { "," label } ] ")"
pub data IsTuple : List Terminal → Tuple → List Terminal → Type 0 where
  tuple : {at : ℕ} {all : List LabelAt} {ts us : List Terminal} →
      Labels Paren ts all us → IsTuple (Symbol OpenParen at ∷ ts) (record { labels = all; at = at }) us

-- part = variant | ID
pub data Part : List Terminal → TypePart → List Terminal → Type 0 where
  set : {v : Variant} {ts us : List Terminal} → IsVariant ts v us → Part ts (Set v) us
  named : {name : Ident} {us : List Terminal} → Part (Name name ∷ us) (Named name) us

-- { "|" part }, after the parts so far
pub data MoreParts : List TypePart → List Terminal → List TypePart → List Terminal → Type 0 where
  last_part : {all : List TypePart} {us : List Terminal} → MoreParts all us all us
  more_parts : {at : ℕ} {p : TypePart} {so_far all : List TypePart} {ts us vs : List Terminal} →
      Part ts p us → MoreParts (so_far ++ (p ∷ [])) us all vs → MoreParts so_far (Symbol Bar at ∷ ts) all vs

-- types = part { "|" part }
pub data Types : List Terminal → List TypePart → List Terminal → Type 0 where
  types : {p : TypePart} {all : List TypePart} {ts us vs : List Terminal} →
      Part ts p us → MoreParts (p ∷ []) us all vs → Types ts all vs

-- sig = types "->" types | ID
pub data IsSig : List Terminal → Sig → List Terminal → Type 0 where
  arrow : {at : ℕ} {input output : List TypePart} {ts us vs : List Terminal} →
      Types ts input (Symbol Arrow at ∷ us) → Types us output vs → IsSig ts (ArrowSig input output) vs
  signature : {name : Ident} {us : List Terminal} → IsSig (Name name ∷ us) (NamedSig name) us
