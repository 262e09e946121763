-- The bytes of the words of each kind.
use Rattle.std.proofs.Common.{◌≡◌, ℕ, ◌<◌, ◌≤◌, ◌||◌, nat_lt, map, Bool, true, false, List, [], ◌∷◌, ◌++◌, refl, sym, ap, ◌∙◌, subst, arith}
use Rattle.std.specs.Prelude.{encode_utf8_all, if◌then◌else◌}
use Rattle.std.specs.Char.{is_ascii_digit}
use Rattle.std.specs.List.{list_all}
use Rattle.std.specs.Str.Parse.{digits_value}
use Rattle.std.proofs.lemmas.Bool.{and_parts}
use Rattle.std.proofs.lemmas.Bool.Decides.{nat_tests}
use Rattle.std.proofs.lemmas.Str.{encode_ascii, encodes-append}
use Rattle.sn_ast.specs.declared.terminal.Keyword.{Keyword}
use Rattle.sn_ast.specs.declared.terminal.Symbol.{Symbol}
use Rattle.sn_ast.specs.declared.terminal.Terminal.{Terminal}
use Rattle.sn_lexer.proofs.Tables.{among_then}
use Rattle.sn_lexer.specs.Spelling.{is_among, keywords, is_keyword, lone_symbols, paired_symbols, is_symbol, is_numeral, is_printable, is_escapable, escaped, quoted, IsTag, IsText}
use Rattle.sn_lexer.specs.declared.token.TokenKind.{TokenKind}
use Rattle.sn_lexer.specs.declared.token.TokenKind.TheVariants as kind
use Rattle.sn_lexer.proofs.Contents.{written}
use Rattle.sn_terminal.specs.Words.{keyword_word, symbol_word, bracketed, IsBracketed, IsQuoted, IsSpelled, Says, name, tag, number, literal, keyword, symbol}
use Rattle.sn_terminal.proofs.Tables.{keyword_is, symbol_is}

-- characters of one byte
abbrev pub IsLow : ℕ → Type 0
IsLow c = c < 128

abbrev pub AllLow : List ℕ → Type 0
AllLow [] = Unit {0}
AllLow (c ∷ cs) = IsLow c × AllLow cs

pub low_bytes : (cs : List ℕ) → AllLow cs → encode_utf8_all cs ≡ cs
low_bytes [] low = refl
low_bytes (c ∷ cs) low = λ i. encode_ascii c low.0 i ++ low_bytes cs low.1 i

low_append : (xs ys : List ℕ) → AllLow xs → AllLow ys → AllLow (xs ++ ys)
low_append [] ys low more = more
low_append (x ∷ xs) ys low more = (low.0, low_append xs ys low.1 more)

digit_low : (c : ℕ) → is_ascii_digit c ≡ true → IsLow c
digit_low c h = grind (arith, nat_tests)

digits_low : (cs : List ℕ) → list_all is_ascii_digit cs ≡ true → AllLow cs
digits_low [] h = tt
digits_low (c ∷ cs) h = let parts = and_parts (is_ascii_digit c) (list_all is_ascii_digit cs) h in (digit_low c parts.0, digits_low cs parts.1)

pub numeral_digits : (word : List ℕ) → is_numeral word ≡ true → list_all is_ascii_digit word ≡ true
numeral_digits [] h = refl
numeral_digits (c ∷ cs) h = h

pub number_bytes : (word : List ℕ) → is_numeral word ≡ true → encode_utf8_all word ≡ word
number_bytes word h = low_bytes word (digits_low word (numeral_digits word h))

printable_low : (c : ℕ) → is_printable c ≡ true → IsLow c
printable_low c h = grind (arith, nat_tests)

escaped_low : (c : ℕ) → IsLow c → AllLow (escaped c)
escaped_low c low = elim (is_escapable c) as (λ b. AllLow (if b then 92 ∷ c ∷ [] else c ∷ [])) [ true ↦ (omega arith, (low, tt)) | false ↦ (low, tt) ]

written_low : (content : List ℕ) → list_all is_printable content ≡ true → AllLow (written content)
written_low [] h = tt
written_low (c ∷ content) h =
    let parts = and_parts (is_printable c) (list_all is_printable content) h in
    low_append (escaped c) (written content) (escaped_low c (printable_low c parts.0)) (written_low content parts.1)

quoted_low : (content : List ℕ) → list_all is_printable content ≡ true → AllLow (quoted content)
quoted_low content h = (omega arith, low_append (written content) (34 ∷ []) (written_low content h) (omega arith, tt))

pub text_bytes : (word : List ℕ) (text : IsText word) → encode_utf8_all word ≡ quoted text.content
text_bytes word text = ap encode_utf8_all text.written ∙ low_bytes (quoted text.content) (quoted_low text.content text.printable)

pub tag_bytes : (word : List ℕ) (t : IsTag word) → encode_utf8_all word ≡ bracketed (encode_utf8_all t.name)
tag_bytes word t = ap encode_utf8_all t.written ∙ (λ i. encode_ascii 60 (omega arith) i ++ (encodes-append t.name (62 ∷ []) ∙ ap (λ xs. encode_utf8_all t.name ++ xs) (low_bytes (62 ∷ []) (omega arith, tt))) i)

-- words of keywords and symbols
is_low : ℕ → Bool
is_low c = nat_lt c 128

low_from : (c : ℕ) → nat_lt c 128 ≡ true → IsLow c
low_from c h = grind (arith, nat_tests)

all_low : (cs : List ℕ) → list_all is_low cs ≡ true → AllLow cs
unfolding is_low
all_low [] h = tt
all_low (c ∷ cs) h = let parts = and_parts (nat_lt c 128) (list_all is_low cs) h in (low_from c parts.0, all_low cs parts.1)

pub keyword_bytes : (word : List ℕ) → is_keyword word ≡ true → encode_utf8_all word ≡ word
unfolding is_low is_keyword
keyword_bytes word h = low_bytes word (all_low word (among_then (list_all is_low) keywords word h refl))

pub symbol_bytes : (word : List ℕ) → is_symbol word ≡ true → encode_utf8_all word ≡ word
unfolding is_low is_symbol
symbol_bytes word h =
    elim (is_among (map (λ c. c ∷ []) lone_symbols) word) as (λ b. is_among (map (λ c. c ∷ []) lone_symbols) word ≡ b → (b || is_among paired_symbols word) ≡ true → encode_utf8_all word ≡ word) [
      | true ↦ λ one t. low_bytes word (all_low word (among_then (list_all is_low) (map (λ c. c ∷ []) lone_symbols) word one refl))
      | false ↦ λ one two. low_bytes word (all_low word (among_then (list_all is_low) paired_symbols word two refl))
    ] refl h

-- what the bytes of a word of each kind are
module _ (bytes : List ℕ) where
  pub is_tag : IsSpelled kind.Tag bytes → IsBracketed bytes
  is_tag s = (encode_utf8_all s.spelled.name, s.written ∙ tag_bytes s.word s.spelled)

  pub is_number : (s : IsSpelled kind.Number bytes) → bytes ≡ s.word
  is_number s = s.written ∙ number_bytes s.word s.spelled

  pub number_digits : IsSpelled kind.Number bytes → list_all is_ascii_digit bytes ≡ true
  number_digits s = subst (λ w. list_all is_ascii_digit w ≡ true) (sym (is_number s)) (numeral_digits s.word s.spelled)

  pub number_fits : IsSpelled kind.Number bytes → digits_value 10 bytes ≤ 9223372036854775807
  number_fits s = subst (λ w. digits_value 10 w ≤ 9223372036854775807) (sym (is_number s)) s.within

  pub is_text : IsSpelled kind.Text bytes → IsQuoted bytes
  is_text s = (s.spelled.content, s.written ∙ text_bytes s.word s.spelled)

  pub is_keyword_word : IsSpelled kind.Keyword bytes → (k : Keyword) × (bytes ≡ keyword_word k)
  is_keyword_word s = let one = keyword_is s.word s.spelled in (one.0, s.written ∙ keyword_bytes s.word s.spelled ∙ one.1)

  pub is_symbol_word : IsSpelled kind.Symbol bytes → (t : Symbol) × (bytes ≡ symbol_word t)
  is_symbol_word s = let one = symbol_is s.word s.spelled in (one.0, s.written ∙ symbol_bytes s.word s.spelled ∙ one.1)

-- each word says something
pub each_says : (k : TokenKind) (bytes : List ℕ) (at : ℕ) → IsSpelled k bytes → (x : Terminal) × Says k bytes at x
each_says kind.Ident bytes at s = (_, name)
each_says kind.Keyword bytes at s = let one = is_keyword_word bytes s in (_, keyword one.1)
each_says kind.Tag bytes at s = let one = is_tag bytes s in (_, tag one.1)
each_says kind.Number bytes at s = (_, number)
each_says kind.Text bytes at s = let one = is_text bytes s in (_, literal {content = one.0} one.1)
each_says kind.Symbol bytes at s = let one = is_symbol_word bytes s in (_, symbol one.1)
