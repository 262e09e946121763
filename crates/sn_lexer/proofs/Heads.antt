-- What the first character of a word says of its kind.
use Rattle.std.proofs.Common.{◌≡◌, ℕ, ◌<◌, ◌≤◌, ◌&&◌, ◌||◌, ◌==◌, Bool, true, false, not, nat_lt, List, [], ◌∷◌, length, map, refl, sym, ap, ◌∙◌, inl, inr, arith}
use Rattle.std.specs.List.{list_all}
use Rattle.std.specs.Char.{is_ascii_alphabetic, is_ascii_digit, is_ascii_lowercase}
use Rattle.std.proofs.lemmas.Bool.{false≢true, and_parts, not-true, cases_lt}
use Rattle.std.proofs.lemmas.Bool.Decides.{nat_tests}
use Rattle.unicode_ident.specs.Ident.{is_xid_continue}
use Rattle.unicode_ident.proofs.IdentLemmas.{is_xid_start-ascii, is_xid_continue-ascii}
use Rattle.sn_lexer.specs.Spelling.{starts_name, is_name, is_keyword, keywords, is_symbol, lone_symbols, paired_symbols, is_among}
use Rattle.sn_lexer.specs.Gaps.{is_blank, opens_comment}
use Rattle.sn_lexer.proofs.Tables.{among_then}

abbrev pub is_ascii : ℕ → Bool
is_ascii c = nat_lt c 128

-- below 128 a name begins with a letter or an underscore
pub starts_name_ascii : (c : ℕ) → c < 128 → starts_name c ≡ (is_ascii_alphabetic c || (c == 95))
starts_name_ascii c small = ap (λ b. b || (c == 95)) (is_xid_start-ascii c small)

pub starts_above : (c : ℕ) → starts_name c ≡ true → 65 ≤ c
starts_above c starts = elim (cases_lt c 128) [
  | inl small ↦ let ascii = sym (starts_name_ascii c small) ∙ starts in grind (arith, nat_tests, ascii)
  | inr large ↦ omega arith
]

pub angle_stops : is_xid_continue 62 ≡ false
angle_stops = is_xid_continue-ascii 62 (omega arith)

small_starts : (c : ℕ) → is_ascii_lowercase c ≡ true → starts_name c ≡ true
small_starts c small =
    let below : c < 128 = grind (arith, nat_tests) in
    starts_name_ascii c below ∙ grind (arith, nat_tests)

small_continues : (c : ℕ) → is_ascii_lowercase c ≡ true → is_xid_continue c ≡ true
small_continues c small =
    let below : c < 128 = grind (arith, nat_tests) in
    is_xid_continue-ascii c below ∙ grind (arith, nat_tests)

all_continue : (cs : List ℕ) → list_all is_ascii_lowercase cs ≡ true → list_all is_xid_continue cs ≡ true
all_continue [] h = refl
all_continue (c ∷ cs) h =
    let parts = and_parts (is_ascii_lowercase c) (list_all is_ascii_lowercase cs) h in
    λ i. small_continues c parts.0 i && all_continue cs parts.1 i

abbrev is_small : List ℕ → Bool
is_small [] = false
is_small (c ∷ cs) = list_all is_ascii_lowercase (c ∷ cs)

-- a name of small letters
small_name : (word : List ℕ) → is_small word ≡ true → is_name word ≡ true
small_name [] h = absurd (false≢true h)
small_name (c ∷ cs) h =
    let parts = and_parts (is_ascii_lowercase c) (list_all is_ascii_lowercase cs) h in
    λ i. small_starts c parts.0 i && all_continue cs parts.1 i

pub keyword_name : (word : List ℕ) → is_keyword word ≡ true → is_name word ≡ true
unfolding is_keyword
keyword_name word h = small_name word (among_then is_small keywords word h refl)

-- what a symbol begins with: no name, no number, no text and no blank does
abbrev pub is_mark : ℕ → Bool
is_mark c = nat_lt c 128 && (not (is_ascii_alphabetic c || (c == 95)) && (not (is_ascii_digit c) && (not (c == 34) && not (is_blank c))))

pub record IsMark (c : ℕ) : Type 0 where
  pub starts : starts_name c ≡ false
  pub digit : is_ascii_digit c ≡ false
  pub quote : c ≡ 34 → ⊥
  pub blank : is_blank c ≡ false

pub mark_is : (c : ℕ) → is_mark c ≡ true → IsMark c
mark_is c h =
    let below : c < 128 = grind (arith, nat_tests) in
    record {
      starts = starts_name_ascii c below ∙ grind (arith, nat_tests);
      digit = grind (arith, nat_tests);
      quote = λ e. grind (arith, nat_tests);
      blank = grind (arith, nat_tests);
    }

-- a symbol is one mark or two
abbrev is_symbol_form : List ℕ → Bool
is_symbol_form [] = false
is_symbol_form (a ∷ []) = is_mark a
is_symbol_form (a ∷ b ∷ []) = is_mark a && is_mark b
is_symbol_form _ = false

-- what holds of each symbol of the tables holds of a symbol
symbol_then : (P : List ℕ → Bool) (word : List ℕ) → is_symbol word ≡ true → list_all P (map (λ c. c ∷ []) lone_symbols) ≡ true → list_all P paired_symbols ≡ true → P word ≡ true
unfolding is_symbol
symbol_then P word h lone paired =
    elim (is_among (map (λ c. c ∷ []) lone_symbols) word) as (λ b. is_among (map (λ c. c ∷ []) lone_symbols) word ≡ b → (b || is_among paired_symbols word) ≡ true → P word ≡ true) [
      | true ↦ λ e s. among_then P (map (λ c. c ∷ []) lone_symbols) word e lone
      | false ↦ λ e s. among_then P paired_symbols word s paired
    ] refl h

symbol_form : (word : List ℕ) → is_symbol word ≡ true → is_symbol_form word ≡ true
symbol_form word h = symbol_then is_symbol_form word h refl refl

-- no symbol of two characters opens a comment
pub pair_no_comment : (a b : ℕ) (rest : List ℕ) → is_symbol (a ∷ b ∷ []) ≡ true → opens_comment (a ∷ b ∷ rest) ≡ false
pair_no_comment a b rest h = not-true (opens_comment (a ∷ b ∷ [])) (symbol_then (λ word. not (opens_comment word)) (a ∷ b ∷ []) h refl refl)

-- a symbol's characters are ASCII
pub symbol_ascii : (word : List ℕ) → is_symbol word ≡ true → list_all is_ascii word ≡ true
symbol_ascii word h = symbol_then (list_all is_ascii) word h refl refl

pub keyword_ascii : (word : List ℕ) → is_keyword word ≡ true → list_all is_ascii word ≡ true
unfolding is_keyword
keyword_ascii word h = among_then (list_all is_ascii) keywords word h refl

pub symbol_head : (c : ℕ) (cs : List ℕ) → is_symbol (c ∷ cs) ≡ true → IsMark c
symbol_head c [] h = mark_is c (symbol_form (c ∷ []) h)
symbol_head c (d ∷ []) h = mark_is c (and_parts (is_mark c) (is_mark d) (symbol_form (c ∷ d ∷ []) h)).0
symbol_head c (d ∷ e ∷ cs) h = absurd (false≢true (symbol_form (c ∷ d ∷ e ∷ cs) h))

pub symbol_second : (c d : ℕ) (cs : List ℕ) → is_symbol (c ∷ d ∷ cs) ≡ true → IsMark d
symbol_second c d [] h = mark_is d (and_parts (is_mark c) (is_mark d) (symbol_form (c ∷ d ∷ []) h)).1
symbol_second c d (e ∷ cs) h = absurd (false≢true (symbol_form (c ∷ d ∷ e ∷ cs) h))

pub symbol_filled : is_symbol [] ≡ true → ⊥
symbol_filled h = false≢true (symbol_form [] h)

pub symbol_short : (word : List ℕ) → is_symbol word ≡ true → length word ≤ 2
symbol_short [] h = omega arith
symbol_short (a ∷ []) h = omega arith
symbol_short (a ∷ b ∷ []) h = omega arith
symbol_short (a ∷ b ∷ c ∷ cs) h = absurd (false≢true (symbol_form (a ∷ b ∷ c ∷ cs) h))
