-- What tokens spell is one thing, and so is what follows it.
use Rattle.std.proofs.Common.{◌≡◌, ◌∙◌, List, [], ◌∷◌, ap, refl, subst, sym}
use Rattle.sn_record.specs.declared.value.Value.{Value}
use Rattle.sn_record.specs.declared.value.Value.TheVariants as value
use Rattle.sn_record_tokens.specs.declared.token.Token.{Token}
use Rattle.sn_record_parser.specs.Grammar.{IsValue, AreMore, IsEntry, AreFurther, IsLine, number, text, empty, list, end, next, entries, field_at, tag_at, field}
use Rattle.sn_record_parser.specs.declared.entry.Entry.{Entry}

mutual
  pub IsValue_once : {tokens rest others : List Token} {v w : Value} → IsValue tokens v rest → IsValue tokens w others → (v ≡ w) × (rest ≡ others)
  IsValue_once (number p) (number q) = (p ∙ sym q, refl)
  IsValue_once (text p) (text q) = (p ∙ sym q, refl)
  IsValue_once (empty p) (empty q) = (p ∙ sym q, refl)
  IsValue_once (empty p) (list b n q) = elim b [ ]
  IsValue_once (list a m p) (empty q) = elim a [ ]
  IsValue_once {rest} {others} (list {v = v} {vs = vs} a m p) (list {v = w} {vs = ws} b n q) =
      let first = IsValue_once a b in
      let further : (vs ≡ ws) × (rest ≡ others) = AreMore_once m (subst (λ ts. AreMore ts ws others) (sym first.1) n) in
      let same : v ∷ vs ≡ w ∷ ws = cc in
      (p ∙ ap value.List same ∙ sym q, further.1)

  pub AreMore_once : {tokens rest others : List Token} {vs ws : List Value} → AreMore tokens vs rest → AreMore tokens ws others → (vs ≡ ws) × (rest ≡ others)
  AreMore_once end end = (refl, refl)
  AreMore_once {rest} {others} (next {v = v} {vs = vs} a m) (next {v = w} {vs = ws} b n) =
      let first = IsValue_once a b in
      let further : (vs ≡ ws) × (rest ≡ others) = AreMore_once m (subst (λ ts. AreMore ts ws others) (sym first.1) n) in
      let same : v ∷ vs ≡ w ∷ ws = cc in
      (same, further.1)

pub IsEntry_once : {tokens rest others : List Token} {d e : Entry} → IsEntry tokens d rest → IsEntry tokens e others → (d ≡ e) × (rest ≡ others)
IsEntry_once (field_at {name} a s p) (field_at b t q) =
    let once = IsValue_once a b in
    let entry : Value → Entry = λ v. record { label = field name; value = v } in
    (p ∙ ap entry once.0 ∙ sym q, once.1)
IsEntry_once (tag_at p) (tag_at q) = (p ∙ sym q, refl)

pub AreFurther_once : {tokens rest others : List Token} {ds es : List Entry} → AreFurther tokens ds rest → AreFurther tokens es others → (ds ≡ es) × (rest ≡ others)
AreFurther_once end end = (refl, refl)
AreFurther_once {rest} {others} (next {e = d} {es = ds} a m) (next {e = e} {es = es} b n) =
    let first = IsEntry_once a b in
    let further : (ds ≡ es) × (rest ≡ others) = AreFurther_once m (subst (λ ts. AreFurther ts es others) (sym first.1) n) in
    let same : d ∷ ds ≡ e ∷ es = cc in
    (same, further.1)

pub IsLine_once : {tokens : List Token} {ds es : List Entry} → IsLine tokens ds → IsLine tokens es → ds ≡ es
IsLine_once empty empty = refl
IsLine_once empty (entries b n) = elim b [ ]
IsLine_once (entries a m) empty = elim a [ ]
IsLine_once (entries {e = d} {es = ds} a m) (entries {e = e} {es = es} b n) =
    let first = IsEntry_once a b in
    let further : (ds ≡ es) × ([] ≡ []) = AreFurther_once m (subst (λ ts. AreFurther ts es []) (sym first.1) n) in
    let same : d ∷ ds ≡ e ∷ es = cc in
    same
