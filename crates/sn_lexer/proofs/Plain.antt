-- Words that are their own bytes: all but names and tags.
use Rattle.std.proofs.Common.{◌≡◌, ℕ, ◌&&◌, Bool, true, false, List, [], ◌∷◌, ◌++◌, refl, sym, ap, ◌∙◌, arith}
use Rattle.std.specs.Prelude.{encode_utf8_all, if◌then◌else◌}
use Rattle.std.specs.List.{list_all}
use Rattle.std.specs.Char.{is_ascii_digit}
use Rattle.std.proofs.lemmas.Bool.{and_parts, ltb-true}
use Rattle.std.proofs.lemmas.Bool.Decides.{nat_tests}
use Rattle.std.proofs.lemmas.Str.{encode_ascii, encodes_same}
use Rattle.sn_lexer.specs.Spelling.{IsText, is_keyword, is_numeral, is_symbol, is_printable, is_escapable, escaped}
use Rattle.sn_lexer.proofs.Heads.{is_ascii, symbol_ascii, keyword_ascii}
use Rattle.sn_lexer.proofs.Contents.{written}

pub ascii_bytes : (word : List ℕ) → list_all is_ascii word ≡ true → encode_utf8_all word ≡ word
ascii_bytes [] h = refl
ascii_bytes (c ∷ word) h =
    let parts = and_parts (is_ascii c) (list_all is_ascii word) h in
    ap (λ xs. xs ++ encode_utf8_all word) (encode_ascii c (ltb-true c 128 parts.0)) ∙ ap (λ xs. c ∷ xs) (ascii_bytes word parts.1)

-- a word with the bytes of an ASCII word is that word
pub word_from_bytes : (word plain : List ℕ) → list_all is_ascii plain ≡ true → encode_utf8_all word ≡ plain → word ≡ plain
word_from_bytes word plain ascii bytes = encodes_same word plain (bytes ∙ sym (ascii_bytes plain ascii))

all_digits : (word : List ℕ) → list_all is_ascii_digit word ≡ true → list_all is_ascii word ≡ true
all_digits [] h = refl
all_digits (c ∷ word) h =
    let parts = and_parts (is_ascii_digit c) (list_all is_ascii_digit word) h in
    let digit = parts.0 in
    let small : is_ascii c ≡ true = grind (arith, nat_tests) in
    λ i. small i && all_digits word parts.1 i

pub numeral_bytes : (word : List ℕ) → is_numeral word ≡ true → encode_utf8_all word ≡ word
numeral_bytes [] h = refl
numeral_bytes (c ∷ word) h = ascii_bytes (c ∷ word) (all_digits (c ∷ word) h)

all_append : (test : ℕ → Bool) (xs ys : List ℕ) → list_all test xs ≡ true → list_all test ys ≡ true → list_all test (xs ++ ys) ≡ true
all_append test [] ys h k = k
all_append test (x ∷ xs) ys h k =
    let parts = and_parts (test x) (list_all test xs) h in
    λ i. parts.0 i && all_append test xs ys parts.1 k i

escaped_ascii : (c : ℕ) → is_printable c ≡ true → list_all is_ascii (escaped c) ≡ true
escaped_ascii c h =
    let small : is_ascii c ≡ true = grind (arith, nat_tests) in
    elim (is_escapable c) as (λ b. list_all is_ascii (if b then 92 ∷ c ∷ [] else c ∷ []) ≡ true) [
      | true ↦ rw small refl
      | false ↦ rw small refl
    ]

content_ascii : (content : List ℕ) → list_all is_printable content ≡ true → list_all is_ascii (written content) ≡ true
content_ascii [] h = refl
content_ascii (c ∷ content) h =
    let parts = and_parts (is_printable c) (list_all is_printable content) h in
    all_append is_ascii (escaped c) (written content) (escaped_ascii c parts.0) (content_ascii content parts.1)

pub text_bytes : (word : List ℕ) → IsText word → encode_utf8_all word ≡ word
text_bytes word t =
    ascii_bytes word (ap (list_all is_ascii) t.written ∙ all_append is_ascii (written t.content) (34 ∷ []) (content_ascii t.content t.printable) refl)

pub symbol_bytes : (word : List ℕ) → is_symbol word ≡ true → encode_utf8_all word ≡ word
symbol_bytes word h = ascii_bytes word (symbol_ascii word h)

pub keyword_is_bytes : (word : List ℕ) → is_keyword word ≡ true → encode_utf8_all word ≡ word
keyword_is_bytes word h = ascii_bytes word (keyword_ascii word h)
