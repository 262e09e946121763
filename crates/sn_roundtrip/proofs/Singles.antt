-- The text of each single word, and a blank.
use Rattle.std.proofs.Common.{◌≡◌, ℕ, ◌-◌, ◌<◌, ◌≤◌, ◌==◌, ◌||◌, ◌&&◌, Bool, true, false, pos, List, [], ◌∷◌, ◌++◌, append_assoc, take, drop, codes, refl, sym, ap, ◌∙◌, subst, arith}
use Rattle.std.specs.Prelude.{encode_utf8_all, if◌then◌else◌}
use Rattle.std.specs.Fmt.{decimal}
use Rattle.std.specs.Char.{is_ascii_digit, digit_value}
use Rattle.std.specs.List.{list_any, list_all}
use Rattle.std.specs.Str.{all_scalars}
use Rattle.std.specs.Str.Parse.{digits_value, AllDigits, IsNumeral}
use Rattle.std.proofs.lemmas.Bool.{false≢true, and_parts, and_from, or_left, or_right, ltb-true, eqb-true}
use Rattle.std.proofs.lemmas.Bool.Decides.{nat_tests}
use Rattle.std.proofs.lemmas.Fmt.{decimal_is_IsNumeral}
use Rattle.std.proofs.lemmas.List.{take_at, drop_at}
use Rattle.std.proofs.lemmas.Str.{encodes-append, encode_ascii}
use Rattle.sn_ast.specs.declared.terminal.Keyword.{Keyword}
use Rattle.sn_ast.specs.declared.terminal.Keyword.TheVariants.{Box, Net, Connect, «Type» as TypeWord, TypeSig, If, Then, Else, Let, In, Out, Fun}
use Rattle.sn_ast.specs.declared.terminal.Symbol.{Symbol}
use Rattle.sn_ast.specs.declared.terminal.Symbol.TheVariants.{OpenParen, CloseParen, OpenBrace, CloseBrace, OpenBracket, CloseBracket, OpenSync, CloseSync, Comma, Semicolon, Colon, Assign, Equal, NotEqual, Less, LessEqual, Greater, GreaterEqual, Plus, Minus, Star, Slash, Percent, AndAnd, BarBar, Bar, Bang, BangBang, StarStar, Dots, Arrow, Question, At}
use Rattle.sn_ast.specs.declared.terminal.Terminal.{Terminal}
use Rattle.sn_ast.specs.declared.terminal.Terminal.TheVariants as terminal
use Rattle.sn_lexer.specs.Gaps.{is_blank, opens_comment}
use Rattle.sn_lexer.specs.Gaps.IsGap.{blank}
use Rattle.sn_lexer.specs.Lexes.{width, place, IsToken, token_at}
use Rattle.sn_lexer.specs.Lexes.Lexes.{gap as lex_gap, token as lex_token}
use Rattle.sn_lexer.specs.Placed.{spelling}
use Rattle.sn_lexer.specs.Spelling.{IsText, is_name, is_keyword, is_symbol, is_numeral, is_printable, is_escapable, escaped, quoted}
use Rattle.sn_lexer.specs.declared.token.TokenKind.{TokenKind}
use Rattle.sn_lexer.specs.declared.token.TokenKind.TheVariants as kind
use Rattle.sn_lexer.proofs.Contents.{written}
use Rattle.sn_lexer.proofs.Followed.{identifier_token, keyword_token, pair_token, lone_token}
use Rattle.sn_lexer.proofs.Heads.{keyword_name, keyword_ascii, symbol_ascii, symbol_filled, symbol_short, is_ascii}
use Rattle.sn_lexer.proofs.Pieces.{text_up_to}
use Rattle.sn_lexer.proofs.Symbols.{NoPair}
use Rattle.sn_lexer.proofs.Tags.{no_tag_open}
use Rattle.sn_lexer.proofs.Tokens.{tag_token, text_token, numeral_token}
use Rattle.sn_lexer.proofs.WordKinds.{fails, name_starts, identifier_name}
use Rattle.sn_terminal.specs.Words.{keyword_word, symbol_word, bracketed, Says, name, tag, number, literal, keyword, symbol}
use Rattle.sn_terminal.proofs.Bytes.{number_bytes, numeral_digits, text_bytes, tag_bytes, keyword_bytes, symbol_bytes}
use Rattle.sn_roundtrip.proofs.Joins.{before}
use Rattle.sn_roundtrip.proofs.Spans.{head_at, Calm, Exactly, End, Free, Whole, After, Begins, Follows, Stands, Told, Span, adjoin}
use Rattle.sn_roundtrip.specs.Words.{IsIdentifier, IsTagName}
use Rattle.sn_roundtrip.proofs.Joins.{scalars_append, width_append, pair_then}

-- the place of what follows a front is the front's width
pub place_behind : (total : ℕ) (front rest : List ℕ) → total ≡ width (front ++ rest) → place total rest ≡ width front
place_behind total front rest is = let both = width_append front rest in omega arith

-- the bytes between a front and a rest
bytes_between : (front word rest : List ℕ) → take (width word) (drop (width front) (encode_utf8_all (front ++ (word ++ rest)))) ≡ encode_utf8_all word
bytes_between front word rest =
    let all = encodes-append front (word ++ rest) ∙ ap (λ xs. encode_utf8_all front ++ xs) (encodes-append word rest) in
    ap (λ xs. take (width word) (drop (width front) xs)) all
    ∙ ap (take (width word)) (drop_at (encode_utf8_all front) (encode_utf8_all word ++ encode_utf8_all rest) (width front) refl)
    ∙ take_at (encode_utf8_all word) (encode_utf8_all rest) (width word) refl

-- where a token stands, and how it is spelled
pub record IsAt (all : List ℕ) (k : TokenKind) (word rest : List ℕ) (p : ℕ) : Type 0 where
  pub start : place (width all) (word ++ rest) ≡ p
  pub spelled : spelling (encode_utf8_all all) (token_at (width all) k (word ++ rest) rest) ≡ encode_utf8_all word

pub is_at : (all : List ℕ) (k : TokenKind) (word rest : List ℕ) (p : ℕ) → Stands all p (word ++ rest) → IsAt all k word rest p
is_at all k word rest p s =
    let start = place_behind (width all) s.front (word ++ rest) (ap width s.is) in
    let finish = place_behind (width all) (s.front ++ word) rest (ap width (s.is ∙ sym (append_assoc s.front word rest))) in
    let wide = width_append s.front word in
    let size : place (width all) rest - place (width all) (word ++ rest) ≡ width word = omega arith in
    let bytes = ap (λ xs. take (width word) (drop (width s.front) (encode_utf8_all xs))) s.is ∙ bytes_between s.front word rest in
    record {
      start = start ∙ s.place;
      spelled = (λ i. take (size i) (drop (start i) (encode_utf8_all all))) ∙ bytes;
    }

-- a word that is a token and says a terminal is told before what follows it
pub told_first : (all : List ℕ) (p : ℕ) (k : TokenKind) (word rest : List ℕ) (x : Terminal) (us : List Terminal) →
    Stands all p (word ++ rest) → IsToken k (word ++ rest) rest → Says k (encode_utf8_all word) p x → Told all rest us → Told all (word ++ rest) (x ∷ us)
told_first all p k word rest x us stands t says told =
    let at = is_at all k word rest p stands in
    let here : Says k (spelling (encode_utf8_all all) (token_at (width all) k (word ++ rest) rest)) (place (width all) (word ++ rest)) x =
    subst (λ bytes. Says k bytes (place (width all) (word ++ rest)) x) (sym at.spelled) (subst (λ n. Says k (encode_utf8_all word) n x) (sym at.start) says) in
    record {
      tokens = token_at (width all) k (word ++ rest) rest ∷ told.tokens;
      lexes = lex_token k t told.lexes;
      says = (here, told.says);
    }

-- characters of one byte are scalars
ascii_scalar : (c : ℕ) → is_ascii c ≡ true → all_scalars (c ∷ []) ≡ true
ascii_scalar c h = grind (arith, nat_tests)

ascii_scalars : (cs : List ℕ) → list_all is_ascii cs ≡ true → all_scalars cs ≡ true
ascii_scalars [] h = refl
ascii_scalars (c ∷ cs) h =
    let parts = and_parts (is_ascii c) (list_all is_ascii cs) h in
    scalars_append (c ∷ []) cs (ascii_scalar c parts.0) (ascii_scalars cs parts.1)

abbrev pub first_of : List ℕ → ℕ
first_of [] = 0
first_of (c ∷ cs) = c

-- what begins a symbol of two characters, a comment or a tag
abbrev pub begins_more : ℕ → Bool
begins_more a = list_any (λ d. d == a) (33 ∷ 38 ∷ 42 ∷ 45 ∷ 46 ∷ 47 ∷ 60 ∷ 61 ∷ 62 ∷ 91 ∷ 124 ∷ [])

abbrev pub end_of : List ℕ → End
end_of (a ∷ []) = if begins_more a then After a else Free
end_of _ = Free

abbrev pub symbol_end : Symbol → End
symbol_end s = end_of (symbol_word s)

abbrev first_begins_more : List ℕ → Bool
first_begins_more (a ∷ b ∷ cs) = begins_more a
first_begins_more _ = true

-- what begins nothing longer is a symbol whatever follows it
pub free_token : (a : ℕ) (rest : List ℕ) → is_symbol (a ∷ []) ≡ true → begins_more a ≡ false → IsToken kind.Symbol (a ∷ rest) rest
free_token a rest symbol_is short =
    let no_pair : NoPair a rest = λ b more is. fails (is_symbol (a ∷ b ∷ [])) (λ h. false≢true (sym short ∙ pair_then first_begins_more a b h refl refl)) in
    let no_angle = fails (a == 60) (λ h. short_not a short 60 refl h) in
    let no_slash = fails (a == 47) (λ h. short_not a short 47 refl h) in
    lone_token a rest symbol_is no_pair (no_tag_open (a ∷ rest) no_angle) (plain a rest no_slash)
  where
    short_not : (a : ℕ) → begins_more a ≡ false → (d : ℕ) → begins_more d ≡ true → (a == d) ≡ true → ⊥
    short_not a short d long same = false≢true (sym short ∙ ap begins_more (eqb-true a d same) ∙ long)

    plain : (a : ℕ) (rest : List ℕ) → (a == 47) ≡ false → opens_comment (a ∷ rest) ≡ false
    plain a [] other = refl
    plain a (b ∷ rest) other = ap (λ t. t && ((b == 47) || (b == 42))) other

one_token : (a : ℕ) (rest : List ℕ) → is_symbol (a ∷ []) ≡ true → Follows (end_of (a ∷ [])) rest → IsToken kind.Symbol (a ∷ rest) rest
one_token a rest symbol_is ends =
    elim (begins_more a) as (λ b. begins_more a ≡ b → Follows (if b then After a else Free) rest → IsToken kind.Symbol (a ∷ rest) rest) [
      | true ↦ λ more f. lone_token a rest symbol_is f.0 f.1 f.2
      | false ↦ λ short f. free_token a rest symbol_is short
    ] refl ends

-- a symbol before what may follow it
pub ended_token : (word rest : List ℕ) → is_symbol word ≡ true → Follows (end_of word) rest → IsToken kind.Symbol (word ++ rest) rest
ended_token [] rest h ends = absurd (symbol_filled h)
ended_token (a ∷ []) rest h ends = one_token a rest h ends
ended_token (a ∷ b ∷ []) rest h ends = pair_token a b rest h
ended_token (a ∷ b ∷ c ∷ word) rest h ends = let short = symbol_short (a ∷ b ∷ c ∷ word) h in absurd (omega arith)

pub word_symbol : (s : Symbol) → is_symbol (symbol_word s) ≡ true
unfolding is_symbol
word_symbol OpenParen = refl
word_symbol CloseParen = refl
word_symbol OpenBrace = refl
word_symbol CloseBrace = refl
word_symbol OpenBracket = refl
word_symbol CloseBracket = refl
word_symbol OpenSync = refl
word_symbol CloseSync = refl
word_symbol Comma = refl
word_symbol Semicolon = refl
word_symbol Colon = refl
word_symbol Assign = refl
word_symbol Equal = refl
word_symbol NotEqual = refl
word_symbol Less = refl
word_symbol LessEqual = refl
word_symbol Greater = refl
word_symbol GreaterEqual = refl
word_symbol Plus = refl
word_symbol Minus = refl
word_symbol Star = refl
word_symbol Slash = refl
word_symbol Percent = refl
word_symbol AndAnd = refl
word_symbol BarBar = refl
word_symbol Bar = refl
word_symbol Bang = refl
word_symbol BangBang = refl
word_symbol StarStar = refl
word_symbol Dots = refl
word_symbol Arrow = refl
word_symbol Question = refl
word_symbol At = refl

pub word_keyword : (k : Keyword) → is_keyword (keyword_word k) ≡ true
unfolding is_keyword
word_keyword Box = refl
word_keyword Net = refl
word_keyword Connect = refl
word_keyword TypeWord = refl
word_keyword TypeSig = refl
word_keyword If = refl
word_keyword Then = refl
word_keyword Else = refl
word_keyword Let = refl
word_keyword In = refl
word_keyword Out = refl
word_keyword Fun = refl

begins_first : (word : List ℕ) → is_symbol word ≡ true → Begins (Exactly (first_of word)) word
begins_first [] h = absurd (symbol_filled h)
begins_first (c ∷ word) h = refl

pub symbol_scalar : (s : Symbol) → all_scalars (symbol_word s) ≡ true
symbol_scalar s = ascii_scalars (symbol_word s) (symbol_ascii (symbol_word s) (word_symbol s))

pub symbol_encoded : (s : Symbol) → encode_utf8_all (symbol_word s) ≡ symbol_word s
symbol_encoded s = symbol_bytes (symbol_word s) (word_symbol s)

pub symbol_begins : (s : Symbol) → Begins (Exactly (first_of (symbol_word s))) (symbol_word s)
symbol_begins s = begins_first (symbol_word s) (word_symbol s)

pub symbol_tells : (s : Symbol) (all : List ℕ) (p : ℕ) (rest : List ℕ) (us : List Terminal) → Stands all p (symbol_word s ++ rest) → Follows (symbol_end s) rest → Told all rest us → Told all (symbol_word s ++ rest) (terminal.Symbol s p ∷ us)
symbol_tells s all p rest us stands ends told =
    told_first all p kind.Symbol (symbol_word s) rest (terminal.Symbol s p) us stands (ended_token (symbol_word s) rest (word_symbol s) ends) (symbol (symbol_encoded s)) told

abbrev pub symbol_span : (s : Symbol) → Span (Exactly (first_of (symbol_word s))) (symbol_end s) (symbol_word s)
symbol_span s = record {
  piece = symbol_word s;
  scalar = symbol_scalar s;
  encoded = symbol_encoded s;
  begins = symbol_begins s;
  said = λ p us. terminal.Symbol s p ∷ us;
  heads = λ _ p us. head_at refl;
  tells = symbol_tells s;
}

-- what a name begins with is calm
name_begins : (word : List ℕ) → is_name word ≡ true → Begins Calm word
name_begins [] h = absurd (false≢true h)
name_begins (c ∷ word) h = or_right _ _ (or_right _ _ (name_starts c word h))

pub keyword_scalar : (k : Keyword) → all_scalars (keyword_word k) ≡ true
keyword_scalar k = ascii_scalars (keyword_word k) (keyword_ascii (keyword_word k) (word_keyword k))

pub keyword_encoded : (k : Keyword) → encode_utf8_all (keyword_word k) ≡ keyword_word k
keyword_encoded k = keyword_bytes (keyword_word k) (word_keyword k)

pub keyword_begins : (k : Keyword) → Begins Calm (keyword_word k)
keyword_begins k = name_begins (keyword_word k) (keyword_name (keyword_word k) (word_keyword k))

pub keyword_tells : (k : Keyword) (all : List ℕ) (p : ℕ) (rest : List ℕ) (us : List Terminal) → Stands all p (keyword_word k ++ rest) → Follows Whole rest → Told all rest us → Told all (keyword_word k ++ rest) (terminal.Keyword k p ∷ us)
keyword_tells k all p rest us stands ends told =
    told_first all p kind.Keyword (keyword_word k) rest (terminal.Keyword k p) us stands (keyword_token (keyword_word k) rest (word_keyword k) ends.0) (keyword (keyword_encoded k)) told

abbrev pub keyword_span : (k : Keyword) → Span Calm Whole (keyword_word k)
keyword_span k = record {
  piece = keyword_word k;
  scalar = keyword_scalar k;
  encoded = keyword_encoded k;
  begins = keyword_begins k;
  said = λ p us. terminal.Keyword k p ∷ us;
  heads = λ p us. head_at refl;
  tells = keyword_tells k;
}

blank_ascii : (c : ℕ) → is_blank c ≡ true → is_ascii c ≡ true
blank_ascii c h = grind (arith, nat_tests)

pub gap_scalar : (c : ℕ) → is_blank c ≡ true → all_scalars (c ∷ []) ≡ true
gap_scalar c h = ascii_scalar c (blank_ascii c h)

pub gap_encoded : (c : ℕ) → is_blank c ≡ true → encode_utf8_all (c ∷ []) ≡ c ∷ []
gap_encoded c h = ap (λ xs. xs ++ []) (encode_ascii c (ltb-true c 128 (blank_ascii c h)))

pub gap_tells : (c : ℕ) → is_blank c ≡ true → (all : List ℕ) (p : ℕ) (rest : List ℕ) (us : List Terminal) → Stands all p (c ∷ rest) → Follows Free rest → Told all rest us → Told all (c ∷ rest) us
gap_tells c h all p rest us stands ends told = record { tokens = told.tokens; lexes = lex_gap (blank h) told.lexes; says = told.says }

abbrev pub gap : (c : ℕ) → is_blank c ≡ true → Span (Exactly c) Free (c ∷ [])
gap c h = record {
  piece = c ∷ [];
  scalar = gap_scalar c h;
  encoded = gap_encoded c h;
  begins = refl;
  said = λ p us. us;
  heads = λ no p us. absurd (false≢true (sym no ∙ h));
  tells = gap_tells c h;
}

pub name_calm : {text : List ℕ} (n : IsIdentifier text) → Begins Calm n.word
name_calm n = name_begins n.word (identifier_name n.word n.identifier)

pub name_tells : {text : List ℕ} (n : IsIdentifier text) (all : List ℕ) (p : ℕ) (rest : List ℕ) (us : List Terminal) → Stands all p (n.word ++ rest) → Follows Whole rest → Told all rest us → Told all (n.word ++ rest) (terminal.Name (record { text = text; at = p }) ∷ us)
name_tells {text} n all p rest us stands ends told =
    let says : Says kind.Ident (encode_utf8_all n.word) p (terminal.Name (record { text = text; at = p })) =
    subst (λ bytes. Says kind.Ident (encode_utf8_all n.word) p (terminal.Name (record { text = bytes; at = p }))) n.encoded name in
    told_first all p kind.Ident n.word rest (terminal.Name (record { text = text; at = p })) us stands (identifier_token n.word rest n.identifier ends.0) says told

abbrev pub name_span : {text : List ℕ} → IsIdentifier text → Span Calm Whole text
name_span {text} n = record {
  piece = n.word;
  scalar = n.scalar;
  encoded = n.encoded;
  begins = name_calm n;
  said = λ p us. terminal.Name (record { text = text; at = p }) ∷ us;
  heads = λ p us. head_at refl;
  tells = name_tells n;
}

pub tag_scalar : {text : List ℕ} (n : IsTagName text) → all_scalars (bracketed n.word) ≡ true
tag_scalar n = scalars_append n.word (62 ∷ []) n.scalar refl

pub tag_encoded : {text : List ℕ} (n : IsTagName text) → encode_utf8_all (bracketed n.word) ≡ codes "<" ++ (text ++ codes ">")
tag_encoded n = tag_bytes (bracketed n.word) record { name = n.word; named = n.named; written = refl } ∙ ap bracketed n.encoded

pub tag_tells : {text : List ℕ} (n : IsTagName text) (all : List ℕ) (p : ℕ) (rest : List ℕ) (us : List Terminal) → Stands all p (bracketed n.word ++ rest) → Follows Free rest → Told all rest us → Told all (bracketed n.word ++ rest) (terminal.Tag (record { text = text; at = p }) ∷ us)
tag_tells {text} n all p rest us stands ends told =
    let t = tag_token n.word (bracketed n.word ++ rest) rest n.named (ap (λ xs. 60 ∷ xs) (append_assoc n.word (62 ∷ []) rest)) in
    told_first all p kind.Tag (bracketed n.word) rest (terminal.Tag (record { text = text; at = p })) us stands t (tag (tag_encoded n)) told

abbrev pub tag_span : {text : List ℕ} → IsTagName text → Span Calm Free (codes "<" ++ (text ++ codes ">"))
tag_span {text} n = record {
  piece = bracketed n.word;
  scalar = tag_scalar n;
  encoded = tag_encoded n;
  begins = refl;
  said = λ p us. terminal.Tag (record { text = text; at = p }) ∷ us;
  heads = λ p us. head_at refl;
  tells = tag_tells n;
}

digit_test : (c : ℕ) → digit_value c < 10 → is_ascii_digit c ≡ true
digit_test c h = grind (arith, nat_tests)

digit_tests : (cs : List ℕ) → AllDigits 10 cs → list_all is_ascii_digit cs ≡ true
digit_tests [] h = refl
digit_tests (c ∷ cs) h = and_from _ _ (digit_test c h.0) (digit_tests cs h.1)

numeral_test : (cs : List ℕ) → IsNumeral 10 cs → is_numeral cs ≡ true
numeral_test [] h = absurd (omega (arith, h.0))
numeral_test (c ∷ cs) h = digit_tests (c ∷ cs) h.1

digit_ascii : (c : ℕ) → is_ascii_digit c ≡ true → is_ascii c ≡ true
digit_ascii c h = grind (arith, nat_tests)

digits_ascii : (cs : List ℕ) → list_all is_ascii_digit cs ≡ true → list_all is_ascii cs ≡ true
digits_ascii [] h = refl
digits_ascii (c ∷ cs) h =
    let parts = and_parts (is_ascii_digit c) (list_all is_ascii_digit cs) h in
    and_from _ _ (digit_ascii c parts.0) (digits_ascii cs parts.1)

numeral_begins : (cs : List ℕ) → is_numeral cs ≡ true → Begins Calm cs
numeral_begins [] h = absurd (false≢true h)
numeral_begins (c ∷ cs) h = or_right _ _ (or_left _ _ (and_parts (is_ascii_digit c) (list_all is_ascii_digit cs) h).0)

pub decimal_numeral : (n : ℕ) → n ≤ 9223372036854775807 → is_numeral (decimal n) ≡ true
decimal_numeral n h = numeral_test (decimal n) (decimal_is_IsNumeral n (omega arith)).0

pub decimal_value : (n : ℕ) → n ≤ 9223372036854775807 → digits_value 10 (decimal n) ≡ n
decimal_value n h = (decimal_is_IsNumeral n (omega arith)).1

pub number_scalar : (n : ℕ) → n ≤ 9223372036854775807 → all_scalars (decimal n) ≡ true
number_scalar n h = ascii_scalars (decimal n) (digits_ascii (decimal n) (numeral_digits (decimal n) (decimal_numeral n h)))

pub number_encoded : (n : ℕ) → n ≤ 9223372036854775807 → encode_utf8_all (decimal n) ≡ decimal n
number_encoded n h = number_bytes (decimal n) (decimal_numeral n h)

pub number_begins : (n : ℕ) → n ≤ 9223372036854775807 → Begins Calm (decimal n)
number_begins n h = numeral_begins (decimal n) (decimal_numeral n h)

pub number_tells : (n : ℕ) → n ≤ 9223372036854775807 → (all : List ℕ) (p : ℕ) (rest : List ℕ) (us : List Terminal) → Stands all p (decimal n ++ rest) → Follows Whole rest → Told all rest us → Told all (decimal n ++ rest) (terminal.Number (pos n) p ∷ us)
number_tells n h all p rest us stands ends told =
    let value = decimal_value n h in
    let t = numeral_token (decimal n) (decimal n ++ rest) rest (decimal_numeral n h) (subst (λ m. m ≤ 9223372036854775807) (sym value) h) ends.1 refl in
    let says : Says kind.Number (encode_utf8_all (decimal n)) p (terminal.Number (pos n) p) =
    subst (λ m. Says kind.Number (encode_utf8_all (decimal n)) p (terminal.Number (pos m) p)) (ap (digits_value 10) (number_encoded n h) ∙ value) number in
    told_first all p kind.Number (decimal n) rest (terminal.Number (pos n) p) us stands t says told

abbrev pub number_span : (n : ℕ) → n ≤ 9223372036854775807 → Span Calm Whole (decimal n)
number_span n h = record {
  piece = decimal n;
  scalar = number_scalar n h;
  encoded = number_encoded n h;
  begins = number_begins n h;
  said = λ p us. terminal.Number (pos n) p ∷ us;
  heads = λ p us. head_at refl;
  tells = number_tells n h;
}

printable_ascii : (c : ℕ) → is_printable c ≡ true → is_ascii c ≡ true
printable_ascii c h = grind (arith, nat_tests)

escaped_scalar : (c : ℕ) → is_printable c ≡ true → all_scalars (escaped c) ≡ true
escaped_scalar c h =
    let one = ascii_scalar c (printable_ascii c h) in
    elim (is_escapable c) as (λ b. all_scalars (if b then 92 ∷ c ∷ [] else c ∷ []) ≡ true) [ true ↦ one | false ↦ one ]

written_scalar : (content : List ℕ) → list_all is_printable content ≡ true → all_scalars (written content) ≡ true
written_scalar [] h = refl
written_scalar (c ∷ content) h =
    let parts = and_parts (is_printable c) (list_all is_printable content) h in
    scalars_append (escaped c) (written content) (escaped_scalar c parts.0) (written_scalar content parts.1)

pub literal_scalar : (content : List ℕ) → list_all is_printable content ≡ true → all_scalars (quoted content) ≡ true
literal_scalar content h = scalars_append (written content) (34 ∷ []) (written_scalar content h) refl

-- the word of a text
abbrev quotes : (content : List ℕ) → list_all is_printable content ≡ true → IsText (quoted content)
quotes content h = record { content = content; printable = h; written = refl }

pub literal_encoded : (content : List ℕ) → list_all is_printable content ≡ true → encode_utf8_all (quoted content) ≡ quoted content
literal_encoded content h = text_bytes (quoted content) (quotes content h)

pub literal_tells : (content : List ℕ) → list_all is_printable content ≡ true → (all : List ℕ) (p : ℕ) (rest : List ℕ) (us : List Terminal) → Stands all p (quoted content ++ rest) → Follows Free rest → Told all rest us → Told all (quoted content ++ rest) (terminal.Literal content p ∷ us)
literal_tells content h all p rest us stands ends told =
    let t = text_token (quoted content ++ rest) rest (text_up_to (quoted content) (quoted content ++ rest) rest (quotes content h) refl) in
    told_first all p kind.Text (quoted content) rest (terminal.Literal content p) us stands t (literal {content = content} (literal_encoded content h)) told

abbrev pub literal_span : (content : List ℕ) → list_all is_printable content ≡ true → Span Calm Free (quoted content)
literal_span content h = record {
  piece = quoted content;
  scalar = literal_scalar content h;
  encoded = literal_encoded content h;
  begins = refl;
  said = λ p us. terminal.Literal content p ∷ us;
  heads = λ p us. head_at refl;
  tells = literal_tells content h;
}

-- a symbol between blanks
abbrev pub spaced_text : Symbol → List ℕ
spaced_text s = 32 ∷ (symbol_word s ++ 32 ∷ [])

pub blank_fits : (e : End) → adjoin e (Exactly 32) ≡ true
blank_fits Free = refl
blank_fits Whole = refl
blank_fits (After a) = refl

abbrev pub spaced : (s : Symbol) → Span (Exactly 32) Free (spaced_text s)
spaced s = before (gap 32 refl) (before (symbol_span s) (gap 32 refl) (blank_fits (symbol_end s))) refl
