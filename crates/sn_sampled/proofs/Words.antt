-- Words in a row, each told from the next, have tokens that say them.
use Rattle.std.proofs.Common.{◌≡◌, ℕ, ◌+◌, ◌==◌, ◌||◌, ◌&&◌, Bool, true, false, nat_le, pos, List, [], ◌∷◌, ◌++◌, length, refl, ap, ◌∙◌, subst, arith}
use Rattle.std.specs.Prelude.{not, encode_utf8_all}
use Rattle.std.specs.Str.Parse.{digits_value}
use Rattle.std.specs.Char.{is_ascii_digit, is_ascii_alphabetic, is_ascii_alphanumeric}
use Rattle.std.specs.List.{list_all}
use Rattle.std.specs.Str.{IsUtf8, all_scalars, chars}
use Rattle.std.proofs.lemmas.Bool.{and_parts, and_from, ltb-true, leb-true}
use Rattle.std.proofs.lemmas.Bool.Decides.{nat_tests}
use Rattle.std.proofs.lemmas.Str.{chars_from_encodes}
use Rattle.unicode_ident.specs.Ident.{is_xid_continue}
use Rattle.unicode_ident.proofs.IdentLemmas.{is_xid_continue-ascii}
use Rattle.sn_ast.specs.declared.terminal.Keyword.{Keyword}
use Rattle.sn_ast.specs.declared.terminal.Symbol.{Symbol}
use Rattle.sn_ast.specs.declared.terminal.Terminal.{Terminal}
use Rattle.sn_ast.specs.declared.terminal.Terminal.TheVariants as terminal
use Rattle.sn_lexer.specs.Answer.{LexesAs}
use Rattle.sn_lexer.specs.Lexes.{width, Lexes}
use Rattle.sn_lexer.specs.Lexes.Lexes.{end}
use Rattle.sn_lexer.specs.Spelling.{is_name, is_keyword, is_numeral}
use Rattle.sn_lexer.specs.declared.token.Token.{Token}
use Rattle.sn_lexer.proofs.Heads.{is_ascii, starts_name_ascii}
use Rattle.sn_lexer.specs.declared.token.TokenKind.TheVariants as kind
use Rattle.sn_lexer.proofs.Plain.{ascii_bytes}
use Rattle.sn_lexer.proofs.TagNames.{identifier_tag}
use Rattle.sn_lexer.proofs.Tokens.{numeral_token}
use Rattle.sn_terminal.specs.Words.{keyword_word, symbol_word, bracketed, Says, number, Say}
use Rattle.sn_terminal.proofs.Bytes.{number_bytes, numeral_digits}
use Rattle.sn_roundtrip.specs.Words.{IsIdentifier, IsTagName}
use Rattle.sn_roundtrip.proofs.Spans.{Exactly, End, Free, Whole, After, Follows, adjoin, Stands, Told}
use Rattle.sn_roundtrip.proofs.Joins.{follows, stands_behind, scalars_append}
use Rattle.sn_roundtrip.proofs.Singles.{symbol_end, symbol_encoded, symbol_scalar, symbol_tells, keyword_encoded, keyword_scalar, keyword_tells, gap_encoded, gap_tells, name_tells, tag_encoded, tag_scalar, tag_tells, told_first}

-- What may stand in a source that is plain ASCII: a word, or one blank.
pub data Word : Type 0 where
  Name : List ℕ → Word
  Tag : List ℕ → Word
  Number : List ℕ → Word
  Key : Keyword → Word
  Mark : Symbol → Word
  Blank : Word

abbrev pub word_text : Word → List ℕ
word_text (Name text) = text
word_text (Tag text) = bracketed text
word_text (Number digits) = digits
word_text (Key k) = keyword_word k
word_text (Mark s) = symbol_word s
word_text Blank = 32 ∷ []

abbrev pub words_text : List Word → List ℕ
words_text [] = []
words_text (w ∷ ws) = word_text w ++ words_text ws

-- what a word says where it stands at p, before us
abbrev pub word_said : Word → ℕ → List Terminal → List Terminal
word_said (Name text) p us = terminal.Name (record { text = text; at = p }) ∷ us
word_said (Tag text) p us = terminal.Tag (record { text = text; at = p }) ∷ us
word_said (Number digits) p us = terminal.Number (pos (digits_value 10 digits)) p ∷ us
word_said (Key k) p us = terminal.Keyword k p ∷ us
word_said (Mark s) p us = terminal.Symbol s p ∷ us
word_said Blank p us = us

abbrev pub words_said : List Word → ℕ → List Terminal
words_said [] p = []
words_said (w ∷ ws) p = word_said w p (words_said ws (p + length (word_text w)))

abbrev pub word_end : Word → End
word_end (Name text) = Whole
word_end (Tag text) = Free
word_end (Number digits) = Whole
word_end (Key k) = Whole
word_end (Mark s) = symbol_end s
word_end Blank = Free

-- what follows makes nothing longer of the end
abbrev pub goes_on : End → List ℕ → Bool
goes_on Free [] = true
goes_on Whole [] = false
goes_on (After a) [] = false
goes_on e (c ∷ cs) = adjoin e (Exactly c)

abbrev pub continues : ℕ → Bool
continues c = is_ascii c && (is_ascii_alphanumeric c || (c == 95))

-- a letter or an underscore, and then such and digits, in ASCII
abbrev pub is_plain : List ℕ → Bool
is_plain [] = false
is_plain (c ∷ cs) = (is_ascii c && (is_ascii_alphabetic c || (c == 95))) && list_all continues cs

abbrev pub is_word : Word → Bool
is_word (Name text) = is_plain text && not (is_keyword text)
is_word (Tag text) = is_plain text && not (is_keyword text)
is_word (Number digits) = is_numeral digits && nat_le (digits_value 10 digits) 9223372036854775807
is_word (Key k) = true
is_word (Mark s) = true
is_word Blank = true

-- each word is one, and what follows it makes nothing longer of it
abbrev pub are_words : List Word → Bool
are_words [] = true
are_words (w ∷ ws) = (is_word w && goes_on (word_end w) (words_text ws)) && are_words ws

all_continue : (cs : List ℕ) → list_all continues cs ≡ true → (list_all is_xid_continue cs ≡ true) × (list_all is_ascii cs ≡ true)
all_continue [] h = (refl, refl)
all_continue (c ∷ cs) h =
    let parts = and_parts (continues c) (list_all continues cs) h in
    let first = and_parts (is_ascii c) (is_ascii_alphanumeric c || (c == 95)) parts.0 in
    let rest = all_continue cs parts.1 in
    (and_from _ _ (is_xid_continue-ascii c (ltb-true c 128 first.0) ∙ first.1) rest.0, and_from _ _ first.0 rest.1)

plain_name : (cs : List ℕ) → is_plain cs ≡ true → (is_name cs ≡ true) × (list_all is_ascii cs ≡ true)
plain_name [] h = absurd (differ h)
  where
    differ : false ≡ true → ⊥
    differ e = cc
plain_name (c ∷ cs) h =
    let parts = and_parts (is_ascii c && (is_ascii_alphabetic c || (c == 95))) (list_all continues cs) h in
    let first = and_parts (is_ascii c) (is_ascii_alphabetic c || (c == 95)) parts.0 in
    let rest = all_continue cs parts.1 in
    (and_from _ _ (starts_name_ascii c (ltb-true c 128 first.0) ∙ first.1) rest.0, and_from _ _ first.0 rest.1)

ascii_scalar : (c : ℕ) → is_ascii c ≡ true → all_scalars (c ∷ []) ≡ true
ascii_scalar c h = grind (arith, nat_tests)

ascii_scalars : (cs : List ℕ) → list_all is_ascii cs ≡ true → all_scalars cs ≡ true
ascii_scalars [] h = refl
ascii_scalars (c ∷ cs) h =
    let parts = and_parts (is_ascii c) (list_all is_ascii cs) h in
    scalars_append (c ∷ []) cs (ascii_scalar c parts.0) (ascii_scalars cs parts.1)

-- digits are characters of one byte
digit_ascii : (c : ℕ) → is_ascii_digit c ≡ true → is_ascii c ≡ true
digit_ascii c h = grind (arith, nat_tests)

digits_ascii : (cs : List ℕ) → list_all is_ascii_digit cs ≡ true → list_all is_ascii cs ≡ true
digits_ascii [] h = refl
digits_ascii (c ∷ cs) h =
    let parts = and_parts (is_ascii_digit c) (list_all is_ascii_digit cs) h in
    and_from _ _ (digit_ascii c parts.0) (digits_ascii cs parts.1)

identifier_of : (text : List ℕ) → (is_plain text && not (is_keyword text)) ≡ true → IsIdentifier text
identifier_of text h =
    let parts = and_parts (is_plain text) (not (is_keyword text)) h in
    let plain = plain_name text parts.0 in
    record {
      word = text;
      identifier = and_from _ _ plain.0 parts.1;
      scalar = ascii_scalars text plain.1;
      encoded = ascii_bytes text plain.1;
    }

tag_name_of : (text : List ℕ) → (is_plain text && not (is_keyword text)) ≡ true → IsTagName text
unfolding identifier_of
tag_name_of text h =
    let n = identifier_of text h in
    record { word = text; named = identifier_tag text n.identifier; scalar = n.scalar; encoded = n.encoded }

follows_any : (e : End) (rest : List ℕ) → goes_on e rest ≡ true → Follows e rest
follows_any Free rest h = tt
follows_any Whole [] h = absurd (differ h)
  where
    differ : false ≡ true → ⊥
    differ e = cc
follows_any (After a) [] h = absurd (differ h)
  where
    differ : false ≡ true → ⊥
    differ e = cc
follows_any Whole (c ∷ cs) h = follows Whole (Exactly c) (c ∷ []) cs h refl
follows_any (After a) (c ∷ cs) h = follows (After a) (Exactly c) (c ∷ []) cs h refl

-- a word's characters are scalars and their own bytes
word_scalar : (w : Word) → is_word w ≡ true → all_scalars (word_text w) ≡ true
unfolding identifier_of tag_name_of
word_scalar (Name text) h = (identifier_of text h).scalar
word_scalar (Tag text) h = tag_scalar (tag_name_of text h)
word_scalar (Number digits) h = ascii_scalars digits (digits_ascii digits (numeral_digits digits (and_parts _ _ h).0))
word_scalar (Key k) h = keyword_scalar k
word_scalar (Mark s) h = symbol_scalar s
word_scalar Blank h = refl

word_encoded : (w : Word) → is_word w ≡ true → encode_utf8_all (word_text w) ≡ word_text w
unfolding identifier_of tag_name_of
word_encoded (Name text) h = (identifier_of text h).encoded
word_encoded (Tag text) h = tag_encoded (tag_name_of text h)
word_encoded (Number digits) h = number_bytes digits (and_parts _ _ h).0
word_encoded (Key k) h = keyword_encoded k
word_encoded (Mark s) h = symbol_encoded s
word_encoded Blank h = gap_encoded 32 refl

word_told : (w : Word) → is_word w ≡ true → (all : List ℕ) (p : ℕ) (rest : List ℕ) (us : List Terminal) → Stands all p (word_text w ++ rest) → Follows (word_end w) rest →
    Told all rest us → Told all (word_text w ++ rest) (word_said w p us)
unfolding identifier_of tag_name_of
word_told (Name text) h all p rest us stands ends told = name_tells (identifier_of text h) all p rest us stands ends told
word_told (Tag text) h all p rest us stands ends told = tag_tells (tag_name_of text h) all p rest us stands ends told
word_told (Number digits) h all p rest us stands ends told =
    let parts = and_parts (is_numeral digits) (nat_le (digits_value 10 digits) 9223372036854775807) h in
    let token = numeral_token digits (digits ++ rest) rest parts.0 (leb-true (digits_value 10 digits) 9223372036854775807 parts.1) ends.1 refl in
    let says : Says kind.Number (encode_utf8_all digits) p (terminal.Number (pos (digits_value 10 digits)) p) =
    subst (λ bytes. Says kind.Number (encode_utf8_all digits) p (terminal.Number (pos (digits_value 10 bytes)) p)) (number_bytes digits parts.0) number in
    told_first all p kind.Number digits rest (terminal.Number (pos (digits_value 10 digits)) p) us stands token says told
word_told (Key k) h all p rest us stands ends told = keyword_tells k all p rest us stands ends told
word_told (Mark s) h all p rest us stands ends told = symbol_tells s all p rest us stands ends told
word_told Blank h all p rest us stands ends told = gap_tells 32 refl all p rest us stands tt told

words_told : (ws : List Word) → are_words ws ≡ true → (all : List ℕ) (p : ℕ) → Stands all p (words_text ws) → Told all (words_text ws) (words_said ws p)
words_told [] h all p stands = record { tokens = []; lexes = end; says = tt }
words_told (w ∷ ws) h all p stands =
    let parts = and_parts (is_word w && goes_on (word_end w) (words_text ws)) (are_words ws) h in
    let first = and_parts (is_word w) (goes_on (word_end w) (words_text ws)) parts.0 in
    let behind = stands_behind all p (word_text w) (word_text w) (words_text ws) (word_encoded w first.0) stands in
    word_told w first.0 all p (words_text ws) (words_said ws (p + length (word_text w))) stands (follows_any (word_end w) (words_text ws) first.1)
    (words_told ws parts.1 all (p + length (word_text w)) behind)

words_scalar : (ws : List Word) → are_words ws ≡ true → all_scalars (words_text ws) ≡ true
words_scalar [] h = refl
words_scalar (w ∷ ws) h =
    let parts = and_parts (is_word w && goes_on (word_end w) (words_text ws)) (are_words ws) h in
    scalars_append (word_text w) (words_text ws) (word_scalar w (and_parts (is_word w) _ parts.0).0) (words_scalar ws parts.1)

-- words that stand alone have tokens that say them
pub words_lexed : (text : List ℕ) (ws : List Word) → words_text ws ≡ text → list_all is_ascii text ≡ true → are_words ws ≡ true →
    (tokens : List Token) × LexesAs text tokens × Say text tokens (words_said ws 0)
words_lexed text ws is ascii h =
    let told = words_told ws h (words_text ws) 0 (record { front = []; is = refl; place = refl }) in
    let encoded = ap encode_utf8_all is ∙ ascii_bytes text ascii in
    let utf8 : IsUtf8 text = (words_text ws, (words_scalar ws h, encoded)) in
    let same = chars_from_encodes (words_text ws) text utf8 encoded in
    let lexes = subst (λ n. Lexes n (chars text) told.tokens) (ap length encoded) (subst (λ cs. Lexes (width (words_text ws)) cs told.tokens) same told.lexes) in
    (told.tokens, record { utf8 = utf8; lexes = lexes }, subst (λ bytes. Say bytes told.tokens (words_said ws 0)) encoded told.says)
