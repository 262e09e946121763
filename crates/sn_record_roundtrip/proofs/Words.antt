-- The names, the tags, the numbers and the texts of a printed line.
use Rattle.std.proofs.Common.{◌≡◌, ℕ, suc, ◌<◌, ◌^◌, ◌==◌, true, false, ℤ, pos, negsuc, neg_ℤ, List, [], ◌∷◌, ◌++◌, codes, refl, sym, ap, arith}
use Rattle.std.specs.Prelude.{FitsSigned, if◌then◌else◌}
use Rattle.std.specs.Char.{digit_value}
use Rattle.std.specs.Fmt.{decimal, signed_decimal}
use Rattle.std.specs.Int.{w64}
use Rattle.std.specs.List.{list_all, flat_map}
use Rattle.std.specs.Str.Parse.{AllDigits, IsNumeral, digits_value}
use Rattle.std.proofs.lemmas.Bool.{and_parts, and_from}
use Rattle.std.proofs.lemmas.Bool.Decides.{nat_tests}
use Rattle.std.proofs.lemmas.Fmt.{decimal_is_IsNumeral}
use Rattle.sn_record.specs.Value.{is_printable_text}
use Rattle.sn_lexer.specs.Spelling.{is_printable, is_escapable, escaped, quoted}
use Rattle.sn_record_tokens.specs.declared.token.Token.{Token}
use Rattle.sn_record_tokens.specs.declared.token.Token.TheVariants.{Name, Tag, Number, Text}
use Rattle.sn_record_tokens.specs.Tokens.{SpellsName, SpellsTagName, SpellsTag, SpellsNumber, Tokens}
use Rattle.sn_record_roundtrip.proofs.Characters.{is_inline, all_append, printable_inline, printable_bytes, name_inline, tag_inline}
use Rattle.sn_record_roundtrip.proofs.Readings.{Closes, Reads, word_before, encoded_append}

module _ (word bytes : List ℕ) (s : SpellsName word bytes) where
  pub name_tells : (rest : List ℕ) (us : List Token) → Closes rest → Tokens rest us → Tokens (word ++ rest) (Name bytes ∷ us)
  name_tells rest us closes told = word_before (Name bytes) word rest us s closes.name told

  abbrev pub name_reads : Reads bytes
  name_reads = record { piece = word; encoded = sym s.bytes_are; inline = name_inline word s.name; says = λ us. Name bytes ∷ us; tells = name_tells }

module _ (word bytes : List ℕ) (s : SpellsTagName word bytes) where
  tag_is : SpellsTag (60 ∷ (word ++ 62 ∷ [])) bytes
  tag_is = record { inside = word; name = s; written = refl }

  pub tag_tells : (rest : List ℕ) (us : List Token) → Closes rest → Tokens rest us → Tokens ((60 ∷ (word ++ 62 ∷ [])) ++ rest) (Tag bytes ∷ us)
  tag_tells rest us closes told = word_before (Tag bytes) (60 ∷ (word ++ 62 ∷ [])) rest us tag_is tt told

  abbrev pub tag_reads : Reads (codes "<" ++ (bytes ++ codes ">"))
  tag_reads = record {
    piece = 60 ∷ (word ++ 62 ∷ []);
    encoded = encoded_append (60 ∷ []) (word ++ 62 ∷ []) (60 ∷ []) (bytes ++ 62 ∷ []) (printable_bytes (60 ∷ []) refl) (encoded_append word (62 ∷ []) bytes (62 ∷ []) (sym s.bytes_are) (printable_bytes (62 ∷ []) refl));
    inline = all_append is_inline word (62 ∷ []) (tag_inline word s.named) refl;
    says = λ us. Tag bytes ∷ us;
    tells = tag_tells;
  }

-- a word of digits is a number
digit_no_sign : (c : ℕ) → digit_value c < 10 → ((c == 45) ≡ false) × ((c == 43) ≡ false)
digit_no_sign c h = (grind (arith, nat_tests), grind (arith, nat_tests))

digit_printable : (c : ℕ) → digit_value c < 10 → is_printable c ≡ true
digit_printable c h = grind (arith, nat_tests)

digits_printable : (ds : List ℕ) → AllDigits 10 ds → list_all is_printable ds ≡ true
digits_printable [] h = refl
digits_printable (c ∷ cs) h = and_from _ _ (digit_printable c h.0) (digits_printable cs h.1)

digits_spell : (ds : List ℕ) (n : ℕ) → IsNumeral 10 ds → digits_value 10 ds ≡ n → FitsSigned w64 (pos n) → SpellsNumber ds (pos n)
digits_spell [] n numeral value fits = absurd (omega (arith, numeral.0))
digits_spell (c ∷ cs) n numeral value fits =
    let signs = digit_no_sign c numeral.1.0 in
    let minus : (c == 45) ≡ false = signs.0 in
    let plus : (c == 43) ≡ false = signs.1 in
    record {
      no_plus = λ same. grind (arith, nat_tests);
      digits = rw (minus, plus) numeral;
      value = rw (minus, plus) (ap pos (sym value));
      fits = fits;
    }

minus_spells : (ds : List ℕ) (n : ℕ) → IsNumeral 10 ds → digits_value 10 ds ≡ suc n → FitsSigned w64 (negsuc n) → SpellsNumber (45 ∷ ds) (negsuc n)
minus_spells ds n numeral value fits = record {
  no_plus = λ same. absurd (omega arith);
  digits = numeral;
  value = ap (λ m. neg_ℤ (pos m)) (sym value);
  fits = fits;
}

below : (n : ℕ) → n < 2 ^ 63 → n < 2 ^ 64
below n h = omega arith

above : (n : ℕ) → n < 2 ^ 63 → suc n < 2 ^ 64
above n h = omega arith

pub number_spells : (n : ℤ) → FitsSigned w64 n → SpellsNumber (signed_decimal n) n
number_spells (pos n) fits =
    let numeral = decimal_is_IsNumeral n (below n fits.sfits) in
    digits_spell (decimal n) n numeral.0 numeral.1 fits
number_spells (negsuc n) fits =
    let numeral = decimal_is_IsNumeral (suc n) (above n fits.sfits) in
    minus_spells (decimal (suc n)) n numeral.0 numeral.1 fits

pub number_printable : (n : ℤ) → FitsSigned w64 n → list_all is_printable (signed_decimal n) ≡ true
number_printable (pos n) fits = digits_printable (decimal n) (decimal_is_IsNumeral n (below n fits.sfits)).0.1
number_printable (negsuc n) fits = digits_printable (decimal (suc n)) (decimal_is_IsNumeral (suc n) (above n fits.sfits)).0.1

pub number_tells : (n : ℤ) → FitsSigned w64 n → (rest : List ℕ) (us : List Token) → Closes rest → Tokens rest us → Tokens (signed_decimal n ++ rest) (Number n ∷ us)
number_tells n fits rest us closes told = word_before (Number n) (signed_decimal n) rest us (number_spells n fits) closes.number told

abbrev pub number_reads : (n : ℤ) → FitsSigned w64 n → Reads (signed_decimal n)
number_reads n fits = record {
  piece = signed_decimal n;
  encoded = printable_bytes (signed_decimal n) (number_printable n fits);
  inline = printable_inline (signed_decimal n) (number_printable n fits);
  says = λ us. Number n ∷ us;
  tells = number_tells n fits;
}

-- what is printable as a text of a record is printable in a line
pub content_printable : (content : List ℕ) → is_printable_text content ≡ true → list_all is_printable content ≡ true
content_printable [] h = refl
content_printable (c ∷ content) h =
    let parts = and_parts (is_printable c) (is_printable_text content) h in
    and_from _ _ parts.0 (content_printable content parts.1)

escaped_printable : (c : ℕ) → is_printable c ≡ true → list_all is_printable (escaped c) ≡ true
escaped_printable c h =
    let one : list_all is_printable (c ∷ []) ≡ true = and_from _ _ h refl in
    elim (is_escapable c) as (λ b. list_all is_printable (if b then 92 ∷ c ∷ [] else c ∷ []) ≡ true) [ true ↦ one | false ↦ one ]

written_printable : (content : List ℕ) → list_all is_printable content ≡ true → list_all is_printable (flat_map escaped content) ≡ true
written_printable [] h = refl
written_printable (c ∷ content) h =
    let parts = and_parts (is_printable c) (list_all is_printable content) h in
    all_append is_printable (escaped c) (flat_map escaped content) (escaped_printable c parts.0) (written_printable content parts.1)

pub quoted_printable : (content : List ℕ) → list_all is_printable content ≡ true → list_all is_printable (quoted content) ≡ true
quoted_printable content h = all_append is_printable (flat_map escaped content) (34 ∷ []) (written_printable content h) refl

pub text_tells : (content : List ℕ) → list_all is_printable content ≡ true → (rest : List ℕ) (us : List Token) → Closes rest → Tokens rest us → Tokens (quoted content ++ rest) (Text content ∷ us)
text_tells content h rest us closes told = word_before (Text content) (quoted content) rest us (record { printable = h; written = refl }) tt told

abbrev pub text_reads : (content : List ℕ) → is_printable_text content ≡ true → Reads (quoted content)
text_reads content h = record {
  piece = quoted content;
  encoded = printable_bytes (quoted content) (quoted_printable content (content_printable content h));
  inline = printable_inline (quoted content) (quoted_printable content (content_printable content h));
  says = λ us. Text content ∷ us;
  tells = text_tells content (content_printable content h);
}
