-- Texts in front.
use Rattle.std.proofs.Common.{◌≡◌, ℕ, true, false, List, [], ◌∷◌, ◌++◌, append_assoc, refl, sym, ap, ◌∙◌, subst}
use Rattle.std.specs.List.{list_all}
use Rattle.std.proofs.lemmas.Bool.{false≢true}
use Rattle.sn_lexer.specs.Spelling.{is_printable, quoted}
use Rattle.sn_lexer.specs.Fronts.{BeginsNot}
use Rattle.sn_lexer.proofs.Contents.{written, written_push, all_push, content_once}
use Rattle.sn_record_tokens.specs.declared.token.Token.TheVariants.{Text}
use Rattle.sn_record_tokens.specs.Tokens.{IsToken}
use Rattle.sn_record_tokens.specs.Reading.{BeginsNo, has_content, IsContent}

-- a quote and these bytes are in front, written as in a text
pub record HasBytes (cs bytes rest : List ℕ) : Type 0 where
  pub printable : list_all is_printable bytes ≡ true
  pub front : cs ≡ 34 ∷ (written bytes ++ rest)

pub no_bytes : (cs inside bytes : List ℕ) → cs ≡ 34 ∷ inside → bytes ≡ [] → HasBytes cs bytes inside
no_bytes cs inside bytes opens is = subst (λ bs. HasBytes cs bs inside) (sym is) record { printable = refl; front = opens }

pub bytes_more : (cs bytes rest next more : List ℕ) (c : ℕ) → HasBytes cs bytes rest → IsContent c rest next → more ≡ bytes ++ c ∷ [] → HasBytes cs more next
bytes_more cs bytes rest next more c h one is =
    subst (λ bs. HasBytes cs bs next) (sym is) record {
      printable = all_push is_printable bytes c h.printable one.printable;
      front = h.front ∙ ap (λ xs. 34 ∷ xs) (ap (λ xs. written bytes ++ xs) one.front ∙ written_push bytes c next);
    }

bytes_once : (cs bytes others rest more : List ℕ) → HasBytes cs bytes rest → HasBytes cs others more → has_content rest ≡ false → has_content more ≡ false → (bytes ≡ others) × (rest ≡ more)
bytes_once cs bytes others rest more h k stops stops' =
    let both : written bytes ++ rest ≡ written others ++ more = let e = sym h.front ∙ k.front in cc in
    content_once bytes others rest more h.printable k.printable stops stops' both

pub text_closed : (cs bytes rest behind : List ℕ) → HasBytes cs bytes rest → rest ≡ 34 ∷ behind → IsToken (Text bytes) cs behind
text_closed cs bytes rest behind h closes = record {
  word = quoted bytes;
  spelled = record { printable = h.printable; written = refl };
  front = h.front ∙ ap (λ xs. 34 ∷ xs) (ap (λ xs. written bytes ++ xs) closes ∙ sym (append_assoc (written bytes) (34 ∷ []) behind));
  whole = tt;
}

text_has : (cs bytes behind : List ℕ) → IsToken (Text bytes) cs behind → HasBytes cs bytes (34 ∷ behind)
text_has cs bytes behind t = record {
  printable = t.spelled.printable;
  front = t.front ∙ ap (λ xs. xs ++ behind) t.spelled.written ∙ ap (λ xs. 34 ∷ xs) (append_assoc (written bytes) (34 ∷ []) behind);
}

pub no_text_open : (cs : List ℕ) → BeginsNot 34 cs → BeginsNo Text cs
no_text_open cs other bytes behind t =
    let quote = subst (BeginsNot 34) (text_has cs bytes behind t).front other in
    false≢true (sym quote)

pub no_text_close : (cs bytes rest : List ℕ) → HasBytes cs bytes rest → has_content rest ≡ false → BeginsNot 34 rest → BeginsNo Text cs
no_text_close cs bytes rest h stops other others behind t =
    let parts = bytes_once cs bytes others rest (34 ∷ behind) h (text_has cs others behind t) stops refl in
    let quote = subst (BeginsNot 34) parts.1 other in
    false≢true (sym quote)

-- a text in front is one
pub text_once : (bytes others cs rest more : List ℕ) → IsToken (Text bytes) cs rest → IsToken (Text others) cs more → (bytes ≡ others) × (rest ≡ more)
text_once bytes others cs rest more t u =
    let parts = bytes_once cs bytes others (34 ∷ rest) (34 ∷ more) (text_has cs bytes rest t) (text_has cs others more u) refl refl in
    (parts.0, let e = parts.1 in cc)
