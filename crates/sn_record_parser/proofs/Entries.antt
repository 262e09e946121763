-- An entry from its parts.
use Rattle.std.proofs.Common.{◌≡◌, ◌∙◌, ℕ, ℤ, List, ◌∷◌, ap, refl, subst, sym}
use Rattle.sn_record.specs.Value.{IsSound}
use Rattle.sn_record.specs.declared.value.Value.{Value}
use Rattle.sn_record.specs.declared.value.Value.TheVariants.{Int}
use Rattle.sn_record_tokens.specs.declared.token.Mark.TheVariants.{Equals}
use Rattle.sn_record_tokens.specs.declared.token.Token.{Token}
use Rattle.sn_record_tokens.specs.declared.token.Token.TheVariants.{Mark, Name, Tag, Number}
use Rattle.sn_record_parser.specs.Grammar.{IsValue, IsEntry, field, field_at, tag, tag_at}

pub has_field : {name : List ℕ} {tokens others rest : List Token} {v : Value} → tokens ≡ Mark Equals ∷ others → IsValue others v rest → IsSound v → IsEntry (Name name ∷ tokens) (record { label = field name; value = v }) rest
has_field {name} {rest} {v} e d s = subst (λ ts. IsEntry (Name name ∷ ts) (record { label = field name; value = v }) rest) (sym e) (field_at d s refl)

pub has_tag : {name : List ℕ} {tokens others rest : List Token} {n : ℤ} → tokens ≡ Mark Equals ∷ others → others ≡ Number n ∷ rest → IsEntry (Tag name ∷ tokens) (record { label = tag name; value = Int n }) rest
has_tag {name} {tokens} {rest} {n} e d =
    let same : tokens ≡ Mark Equals ∷ (Number n ∷ rest) = e ∙ ap (λ ts. Mark Equals ∷ ts) d in
    subst (λ ts. IsEntry (Tag name ∷ ts) (record { label = tag name; value = Int n }) rest) (sym same) (tag_at refl)
