-- A word's kind, by its first character.
use Rattle.std.proofs.Common.{◌≡◌, ℕ, ◌<◌, ◌≤◌, ◌==◌, Bool, true, false, not, List, [], ◌∷◌, length, length-append, suc, refl, sym, ap, ◌∙◌, inl, inr, arith}
use Rattle.std.specs.Prelude.{◌⊎◌, if◌then◌else◌}
use Rattle.std.specs.List.{list_all}
use Rattle.std.specs.Char.{is_ascii_digit}
use Rattle.std.proofs.lemmas.Bool.{false≢true, and_parts, not-true, eq-eqb, ne_eqb}
use Rattle.std.proofs.lemmas.Bool.Decides.{nat_tests}
use Rattle.sn_lexer.specs.declared.token.TokenKind.{TokenKind}
use Rattle.sn_lexer.specs.declared.token.TokenKind.TheVariants.{Ident, Keyword, Tag, Number, Text, Symbol}
use Rattle.sn_lexer.specs.Spelling.{Spells, IsTag, IsText, starts_name, is_name, is_keyword, is_numeral, is_symbol, is_identifier, is_tag_name}
use Rattle.sn_lexer.proofs.Heads.{keyword_name, starts_above, symbol_head, symbol_filled, symbol_short}

-- no kind has the empty word
pub no_empty : (kind : TokenKind) → Spells kind [] → ⊥
no_empty Ident s = false≢true s
no_empty Keyword s = false≢true (keyword_name [] s)
no_empty Tag s = let e = s.written in cc
no_empty Number s = false≢true s
no_empty Text s = let e = s.written in cc
no_empty Symbol s = symbol_filled s

pub digit_is : (c : ℕ) (cs : List ℕ) → is_numeral (c ∷ cs) ≡ true → is_ascii_digit c ≡ true
digit_is c cs h = (and_parts (is_ascii_digit c) (list_all is_ascii_digit cs) h).0

pub digit_below : (c : ℕ) → is_ascii_digit c ≡ true → c ≤ 57
digit_below c h = grind (arith, nat_tests)

pub digit_above : (c : ℕ) → is_ascii_digit c ≡ true → 48 ≤ c
digit_above c h = grind (arith, nat_tests)

pub name_starts : (c : ℕ) (cs : List ℕ) → is_name (c ∷ cs) ≡ true → starts_name c ≡ true
name_starts c cs h = (and_parts (starts_name c) _ h).0

pub identifier_name : (word : List ℕ) → is_identifier word ≡ true → is_name word ≡ true
identifier_name word h = (and_parts (is_name word) (not (is_keyword word)) h).0

pub name_filled : (word : List ℕ) → is_name word ≡ true → 0 < length word
name_filled [] h = absurd (false≢true h)
name_filled (c ∷ cs) h = omega arith

pub tag_opens : (c : ℕ) (cs : List ℕ) → IsTag (c ∷ cs) → c ≡ 60
tag_opens c cs s = let e = s.written in cc

pub text_opens : (c : ℕ) (cs : List ℕ) → IsText (c ∷ cs) → c ≡ 34
text_opens c cs s = let e = s.written in cc

pub tag_name_filled : (word : List ℕ) → is_tag_name word ≡ true → 0 < length word
tag_name_filled [] h = absurd (false≢true h)
tag_name_filled (c ∷ cs) h = omega arith

-- a tag is longer than any symbol
pub tag_no_symbol : (word : List ℕ) → IsTag word → is_symbol word ≡ true → ⊥
tag_no_symbol word s h =
    let short = symbol_short word h in
    let named = tag_name_filled s.name s.named in
    let long = ap length s.written ∙ ap suc (length-append s.name (62 ∷ [])) in
    omega arith

-- a word that begins as a name does is a name
pub name_at : (kind : TokenKind) (c : ℕ) (cs : List ℕ) → Spells kind (c ∷ cs) → starts_name c ≡ true → is_name (c ∷ cs) ≡ true
name_at Ident c cs s starts = identifier_name (c ∷ cs) s
name_at Keyword c cs s starts = keyword_name (c ∷ cs) s
name_at Tag c cs s starts = let large = starts_above c starts in let e = tag_opens c cs s in absurd (omega arith)
name_at Number c cs s starts = let large = starts_above c starts in let small = digit_below c (digit_is c cs s) in absurd (omega arith)
name_at Text c cs s starts = let large = starts_above c starts in let e = text_opens c cs s in absurd (omega arith)
name_at Symbol c cs s starts = absurd (false≢true (sym (symbol_head c cs s).starts ∙ starts))

-- one that begins with a digit is a number
pub numeral_at : (kind : TokenKind) (c : ℕ) (cs : List ℕ) → Spells kind (c ∷ cs) → is_ascii_digit c ≡ true → is_numeral (c ∷ cs) ≡ true
numeral_at Ident c cs s digit = let large = starts_above c (name_starts c cs (identifier_name (c ∷ cs) s)) in let small = digit_below c digit in absurd (omega arith)
numeral_at Keyword c cs s digit = let large = starts_above c (name_starts c cs (keyword_name (c ∷ cs) s)) in let small = digit_below c digit in absurd (omega arith)
numeral_at Tag c cs s digit = let e = tag_opens c cs s in let small = digit_below c digit in absurd (omega arith)
numeral_at Number c cs s digit = s
numeral_at Text c cs s digit = let e = text_opens c cs s in let large = digit_above c digit in absurd (omega arith)
numeral_at Symbol c cs s digit = absurd (false≢true (sym (symbol_head c cs s).digit ∙ digit))

-- one that begins with a quote is a text
pub text_at : (kind : TokenKind) (cs : List ℕ) → Spells kind (34 ∷ cs) → IsText (34 ∷ cs)
text_at Ident cs s = let large = starts_above 34 (name_starts 34 cs (identifier_name (34 ∷ cs) s)) in absurd (omega arith)
text_at Keyword cs s = let large = starts_above 34 (name_starts 34 cs (keyword_name (34 ∷ cs) s)) in absurd (omega arith)
text_at Tag cs s = let e = tag_opens 34 cs s in absurd (omega arith)
text_at Number cs s = let large = digit_above 34 (digit_is 34 cs s) in absurd (omega arith)
text_at Text cs s = s
text_at Symbol cs s = absurd ((symbol_head 34 cs s).quote refl)

-- any other is a tag or a symbol
pub mark_at : (kind : TokenKind) (c : ℕ) (cs : List ℕ) → Spells kind (c ∷ cs) → starts_name c ≡ false → is_ascii_digit c ≡ false → (c ≡ 34 → ⊥) → IsTag (c ∷ cs) ⊎ (is_symbol (c ∷ cs) ≡ true)
mark_at Ident c cs s starts digit quote = absurd (false≢true (sym starts ∙ name_starts c cs (identifier_name (c ∷ cs) s)))
mark_at Keyword c cs s starts digit quote = absurd (false≢true (sym starts ∙ name_starts c cs (keyword_name (c ∷ cs) s)))
mark_at Tag c cs s starts digit quote = inl s
mark_at Number c cs s starts digit quote = absurd (false≢true (sym digit ∙ digit_is c cs s))
mark_at Text c cs s starts digit quote = absurd (quote (text_opens c cs s))
mark_at Symbol c cs s starts digit quote = inr s

pub fails : (b : Bool) → (b ≡ true → ⊥) → b ≡ false
fails true h = absurd (h refl)
fails false h = refl

begins_quoted : List ℕ → Bool
begins_quoted [] = false
begins_quoted (c ∷ cs) = c == 34

-- the kind of a word, by what it is
kind_of : List ℕ → TokenKind
kind_of word =
    if is_name word then (if is_keyword word then Keyword else Ident)
    else (if is_numeral word then Number else (if is_symbol word then Symbol else (if begins_quoted word then Text else Tag)))

kind_is : (kind : TokenKind) (c : ℕ) (cs : List ℕ) → Spells kind (c ∷ cs) → kind_of (c ∷ cs) ≡ kind
unfolding kind_of begins_quoted
kind_is Ident c cs s =
    let parts = and_parts (is_name (c ∷ cs)) (not (is_keyword (c ∷ cs))) s in
    let no_keyword = not-true (is_keyword (c ∷ cs)) parts.1 in
    rw (parts.0, no_keyword) refl
kind_is Keyword c cs s =
    let named = keyword_name (c ∷ cs) s in
    rw (named, s) refl
kind_is Tag c cs s =
    let opens = tag_opens c cs s in
    let no_name = fails (is_name (c ∷ cs)) (λ h. let large = starts_above c (name_starts c cs h) in omega arith) in
    let no_number = fails (is_numeral (c ∷ cs)) (λ h. let small = digit_below c (digit_is c cs h) in omega arith) in
    let no_symbol = fails (is_symbol (c ∷ cs)) (tag_no_symbol (c ∷ cs) s) in
    let no_quote = ne_eqb c 34 (λ e. omega arith) in
    rw (no_name, no_number, no_symbol, no_quote) refl
kind_is Number c cs s =
    let no_name = fails (is_name (c ∷ cs)) (λ h. let large = starts_above c (name_starts c cs h) in let small = digit_below c (digit_is c cs s) in omega arith) in
    rw (no_name, s) refl
kind_is Text c cs s =
    let opens = text_opens c cs s in
    let no_name = fails (is_name (c ∷ cs)) (λ h. let large = starts_above c (name_starts c cs h) in omega arith) in
    let no_number = fails (is_numeral (c ∷ cs)) (λ h. let large = digit_above c (digit_is c cs h) in omega arith) in
    let no_symbol = fails (is_symbol (c ∷ cs)) (λ h. (symbol_head c cs h).quote opens) in
    let quote = eq-eqb c 34 opens in
    rw (no_name, no_number, no_symbol, quote) refl
kind_is Symbol c cs s =
    let mark = symbol_head c cs s in
    let no_name = fails (is_name (c ∷ cs)) (λ h. false≢true (sym mark.starts ∙ name_starts c cs h)) in
    let no_number = fails (is_numeral (c ∷ cs)) (λ h. false≢true (sym mark.digit ∙ digit_is c cs h)) in
    rw (no_name, no_number, s) refl

-- a word has one kind
pub spelled_once : (kind other : TokenKind) (word : List ℕ) → Spells kind word → Spells other word → kind ≡ other
spelled_once kind other [] s t = absurd (no_empty kind s)
spelled_once kind other (c ∷ cs) s t = sym (kind_is kind c cs s) ∙ kind_is other c cs t
