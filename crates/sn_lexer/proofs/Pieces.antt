-- What stands first in characters is one thing: a gap, a token or a refusal.
use Rattle.std.proofs.Common.{◌≡◌, ℕ, ◌<◌, ◌==◌, Bool, true, false, List, [], ◌∷◌, ◌++◌, append_assoc, refl, sym, ap, ◌∙◌, subst, inl, inr, arith}
use Rattle.std.specs.Prelude.{Option, Some, None, ◌⊎◌, nat_le, MatchBool, if◌then◌else◌}
use Rattle.std.specs.Str.Parse.{digits_value}
use Rattle.std.proofs.lemmas.Bool.{eq-eqb, ne_eqb, eqb-true, eqb-false, le-leb, lt-leb}
use Rattle.std.proofs.lemmas.Bool.Decides.{nat_tests}
use Rattle.sn_lexer.specs.declared.token.TokenKind.{TokenKind}
use Rattle.sn_lexer.specs.declared.token.TokenKind.TheVariants.{Ident, Keyword, Tag, Number, Text, Symbol}
use Rattle.sn_lexer.specs.declared.token.LexFault.{LexFault}
use Rattle.sn_lexer.specs.declared.token.LexFault.TheVariants.{BadChar, NumberTooWide, TextOpen}
use Rattle.sn_lexer.specs.Spelling.{Spells, IsWithinLimit, IsText, is_symbol}
use Rattle.sn_lexer.specs.Gaps.{is_blank, opens_comment, from_line_end, after_first, after_closing, IsGap}
use Rattle.sn_lexer.specs.Gaps.IsGap.{blank, line_comment, block_comment}
use Rattle.sn_lexer.specs.Lexes.{place, Leads, IsToken, IsTextUpTo, IsBadEscape, BeginsNothing, IsWrong, leaves_open}
use Rattle.sn_lexer.specs.Lexes.IsWrong.{open_comment, open_text, bad_escape, too_wide, bad_char}
use Rattle.sn_lexer.proofs.Heads.{starts_above, symbol_head}
use Rattle.sn_lexer.proofs.Tables.{lone_is}
use Rattle.sn_lexer.proofs.WordKinds.{no_empty, name_starts, identifier_name, digit_is, digit_above, text_at, tag_opens, text_opens, spelled_once}
use Rattle.sn_lexer.proofs.Heads.{keyword_name}
use Rattle.sn_lexer.proofs.Runs.{same_front}
use Rattle.sn_lexer.proofs.Contents.{written, goes_on, content_once, open_stops, wrong_stops}
use Rattle.sn_lexer.proofs.Tokens.{not_slash}

pub data Piece : Type 0 where
  gap : List ℕ → Piece
  word : TokenKind → List ℕ → Piece
  fault : LexFault → Piece

-- what stands first
abbrev pub First : ℕ → List ℕ → Piece → Type 0
First total cs (gap rest) = IsGap cs rest
First total cs (word kind rest) = IsToken kind cs rest
First total cs (fault f) = IsWrong total cs f

abbrev closing_piece : ℕ → List ℕ → Option (List ℕ) → Piece
closing_piece total all None = fault (TextOpen (place total all))
closing_piece total all (Some rest) = gap rest

abbrev comment_piece : ℕ → List ℕ → Piece
comment_piece total [] = gap []
comment_piece total (a ∷ []) = gap []
comment_piece total (a ∷ b ∷ cs) = if b == 47 then gap (from_line_end cs) else closing_piece total (a ∷ b ∷ cs) (after_closing cs)

abbrev begins_quote : List ℕ → Bool
begins_quote [] = false
begins_quote (c ∷ cs) = c == 34

abbrev text_piece : ℕ → List ℕ → List ℕ → Piece
text_piece total cs rest = if leaves_open rest then fault (TextOpen (place total cs)) else (if begins_quote rest then word Text (after_first rest) else fault (BadChar (place total rest)))

record TextCase (total : ℕ) (cs : List ℕ) (p : Piece) : Type 0 where
  pub rest : List ℕ
  pub text : IsTextUpTo cs rest
  pub stops : goes_on rest ≡ false
  pub is : p ≡ text_piece total cs rest

abbrev word_piece : ℕ → TokenKind → List ℕ → List ℕ → List ℕ → Piece
word_piece total Number w cs rest = if nat_le (digits_value 10 w) 9223372036854775807 then word Number rest else fault (NumberTooWide (place total cs))
word_piece total kind w cs rest = word kind rest

record WordCase (total : ℕ) (cs : List ℕ) (p : Piece) : Type 0 where
  pub kind : TokenKind
  pub front : List ℕ
  pub rest : List ℕ
  pub leads : Leads kind front cs rest
  pub is : p ≡ word_piece total kind front cs rest

record NoCase (total : ℕ) (cs : List ℕ) (p : Piece) : Type 0 where
  pub no_word : (kind : TokenKind) (w more : List ℕ) → Spells kind w → cs ≡ w ++ more → ⊥
  pub is : p ≡ fault (BadChar (place total cs))

-- the same, told apart by the first characters
abbrev Cases : ℕ → List ℕ → Piece → Type 0
Cases total [] p = ⊥
Cases total (c ∷ cs) p =
    MatchBool (is_blank c) (p ≡ gap cs)
    (MatchBool (opens_comment (c ∷ cs)) (p ≡ comment_piece total (c ∷ cs))
    (MatchBool (c == 34) (TextCase total (c ∷ cs) p) (WordCase total (c ∷ cs) p ⊎ NoCase total (c ∷ cs) p)))

text_once : (total : ℕ) (cs : List ℕ) (p q : Piece) → TextCase total cs p → TextCase total cs q → p ≡ q
text_once total cs p q s t =
    let inner : written s.text.content ++ s.rest ≡ written t.text.content ++ t.rest = let e = sym s.text.front ∙ t.text.front in cc in
    let parts = content_once s.text.content t.text.content s.rest t.rest s.text.printable t.text.printable s.stops t.stops inner in
    s.is ∙ ap (text_piece total cs) parts.1 ∙ sym t.is

word_once : (total : ℕ) (cs : List ℕ) (p q : Piece) → WordCase total cs p → WordCase total cs q → p ≡ q
word_once total cs p q s t =
    let below = t.leads.longest s.kind s.front s.rest s.leads.spelled s.leads.front in
    let above = s.leads.longest t.kind t.front t.rest t.leads.spelled t.leads.front in
    let parts = same_front s.front s.rest t.front t.rest (omega arith) (sym s.leads.front ∙ t.leads.front) in
    let kinds = spelled_once s.kind t.kind t.front (subst (Spells s.kind) parts.0 s.leads.spelled) t.leads.spelled in
    s.is ∙ (λ i. word_piece total (kinds i) (parts.0 i) cs (parts.1 i)) ∙ sym t.is

either_once : (total : ℕ) (cs : List ℕ) (p q : Piece) → WordCase total cs p ⊎ NoCase total cs p → WordCase total cs q ⊎ NoCase total cs q → p ≡ q
either_once total cs p q (inl s) (inl t) = word_once total cs p q s t
either_once total cs p q (inl s) (inr t) = absurd (t.no_word s.kind s.front s.rest s.leads.spelled s.leads.front)
either_once total cs p q (inr s) (inl t) = absurd (s.no_word t.kind t.front t.rest t.leads.spelled t.leads.front)
either_once total cs p q (inr s) (inr t) = s.is ∙ sym t.is

both_cases : (b : Bool) (p q : Piece) {P P' Q Q' : Type 0} → (P → P' → p ≡ q) → (Q → Q' → p ≡ q) → MatchBool b P Q → MatchBool b P' Q' → p ≡ q
both_cases true p q at_true at_false h h' = at_true h h'
both_cases false p q at_true at_false h h' = at_false h h'

cases_once : (total : ℕ) (cs : List ℕ) (p q : Piece) → Cases total cs p → Cases total cs q → p ≡ q
cases_once total [] p q h h' = absurd h
cases_once total (c ∷ cs) p q h h' =
    both_cases (is_blank c) p q (λ e f. e ∙ sym f)
    (both_cases (opens_comment (c ∷ cs)) p q (λ e f. e ∙ sym f)
    (both_cases (c == 34) p q (text_once total (c ∷ cs) p q) (either_once total (c ∷ cs) p q))) h h'

-- no word begins with a blank
no_blank : (kind : TokenKind) (c : ℕ) (cs : List ℕ) → Spells kind (c ∷ cs) → is_blank c ≡ false
no_blank Ident c cs s = let large = starts_above c (name_starts c cs (identifier_name (c ∷ cs) s)) in grind (arith, nat_tests)
no_blank Keyword c cs s = let large = starts_above c (name_starts c cs (keyword_name (c ∷ cs) s)) in grind (arith, nat_tests)
no_blank Tag c cs s = let e = tag_opens c cs s in grind (arith, nat_tests)
no_blank Number c cs s = let large = digit_above c (digit_is c cs s) in grind (arith, nat_tests)
no_blank Text c cs s = let e = text_opens c cs s in grind (arith, nat_tests)
no_blank Symbol c cs s = (symbol_head c cs s).blank

blank_case : (total c : ℕ) (cs : List ℕ) → is_blank c ≡ true → Cases total (c ∷ cs) (gap cs)
blank_case total c cs is = rw is refl

text_case : (total : ℕ) (cs : List ℕ) (p : Piece) → TextCase total cs p → Cases total cs p
text_case total [] p t = let e = t.text.front in cc
text_case total (c ∷ cs) p t =
    let quote : c ≡ 34 = let e = t.text.front in cc in
    let plain = not_slash c cs (λ e. omega arith) in
    let solid : is_blank c ≡ false = grind (arith, nat_tests) in
    let is_quote = eq-eqb c 34 quote in
    rw (solid, plain, is_quote) t

word_case : (total c : ℕ) (cs : List ℕ) (p : Piece) → is_blank c ≡ false → opens_comment (c ∷ cs) ≡ false → (c ≡ 34 → ⊥) → WordCase total (c ∷ cs) p ⊎ NoCase total (c ∷ cs) p → Cases total (c ∷ cs) p
word_case total c cs p solid plain no_quote h =
    let other = ne_eqb c 34 no_quote in
    rw (solid, plain, other) h

gap_cases : (total : ℕ) (cs rest : List ℕ) → IsGap cs rest → Cases total cs (gap rest)
gap_cases total [] rest g = elim g [ ]
gap_cases total (c ∷ cs) rest (blank is) = blank_case total c cs is
gap_cases total (c ∷ d ∷ cs) rest (line_comment past) = ap gap past
gap_cases total (c ∷ d ∷ cs) rest (block_comment closed) = sym (ap (closing_piece total (47 ∷ 42 ∷ cs)) closed)

-- a text that was read, as its content up to the closing quote
pub text_up_to : (w cs rest : List ℕ) → IsText w → cs ≡ w ++ rest → IsTextUpTo cs (34 ∷ rest)
text_up_to w cs rest t is = record {
  content = t.content;
  printable = t.printable;
  front = is ∙ ap (λ xs. xs ++ rest) t.written ∙ ap (λ xs. 34 ∷ xs) (append_assoc (written t.content) (34 ∷ []) rest);
}

within_piece : (total : ℕ) (kind : TokenKind) (w cs rest : List ℕ) → IsWithinLimit kind w → word kind rest ≡ word_piece total kind w cs rest
within_piece total Ident w cs rest within = refl
within_piece total Keyword w cs rest within = refl
within_piece total Tag w cs rest within = refl
within_piece total Number w cs rest within = let small = le-leb (digits_value 10 w) 9223372036854775807 within in rw small refl
within_piece total Text w cs rest within = refl
within_piece total Symbol w cs rest within = refl

leads_cases : (total : ℕ) (kind : TokenKind) (w cs rest : List ℕ) (p : Piece) → Leads kind w cs rest → opens_comment cs ≡ false → p ≡ word_piece total kind w cs rest → Cases total cs p
leads_cases total kind [] cs rest p l plain is = absurd (no_empty kind l.spelled)
leads_cases total kind (d ∷ w) [] rest p l plain is = let e = l.front in cc
leads_cases total kind (d ∷ w) (c ∷ cs) rest p l plain is =
    let head : c ≡ d = let e = l.front in cc in
    let solid = ap is_blank head ∙ no_blank kind d w l.spelled in
    elim (c == 34) as (λ b. (c == 34) ≡ b → Cases total (c ∷ cs) p) [
      | true ↦ λ quote.
          let one = sym head ∙ eqb-true c 34 quote in
          let text = text_at kind w (subst (λ x. Spells kind (x ∷ w)) one l.spelled) in
          let text_kind = spelled_once kind Text (34 ∷ w) (subst (λ x. Spells kind (x ∷ w)) one l.spelled) text in
          text_case total (c ∷ cs) p record {
            rest = 34 ∷ rest;
            text = text_up_to (34 ∷ w) (c ∷ cs) rest text (l.front ∙ ap (λ x. x ∷ (w ++ rest)) one);
            stops = refl;
            is = is ∙ ap (λ k. word_piece total k (d ∷ w) (c ∷ cs) rest) text_kind;
          }
      | false ↦ λ other. word_case total c cs p solid plain (eqb-false c 34 other) (inl record { kind = kind; front = d ∷ w; rest = rest; leads = l; is = is })
    ] refl

token_cases : (total : ℕ) (kind : TokenKind) (cs rest : List ℕ) → IsToken kind cs rest → Cases total cs (word kind rest)
token_cases total kind cs rest t = leads_cases total kind t.word cs rest (word kind rest) t.leads t.no_comment (within_piece total kind t.word cs rest t.within)

open_case : (total : ℕ) (cs rest : List ℕ) → IsTextUpTo cs rest → leaves_open rest ≡ true → Cases total cs (fault (TextOpen (place total cs)))
open_case total cs rest text ends = text_case total cs _ record { rest = rest; text = text; stops = open_stops rest ends; is = rw ends refl }

bad_piece : (total : ℕ) (cs rest : List ℕ) → IsBadEscape rest → fault (BadChar (place total rest)) ≡ text_piece total cs rest
bad_piece total cs rest bad =
    subst (λ xs. fault (BadChar (place total xs)) ≡ text_piece total cs xs) (sym bad.front) (let printable = bad.printable in rw printable refl)

bad_case : (total : ℕ) (cs rest : List ℕ) → IsTextUpTo cs rest → IsBadEscape rest → Cases total cs (fault (BadChar (place total rest)))
bad_case total cs rest text bad = text_case total cs _ record { rest = rest; text = text; stops = wrong_stops rest bad; is = bad_piece total cs rest bad }

number_opens : (w cs rest : List ℕ) → Leads Number w cs rest → opens_comment cs ≡ false
number_opens [] cs rest l = absurd (no_empty Number l.spelled)
number_opens (d ∷ w) cs rest l =
    let large = digit_above d (digit_is d w l.spelled) in
    subst (λ xs. opens_comment xs ≡ false) (sym l.front) (not_slash d (w ++ rest) (λ e. omega arith))

wide_case : (total : ℕ) (w cs rest : List ℕ) → Leads Number w cs rest → 9223372036854775807 < digits_value 10 w → Cases total cs (fault (NumberTooWide (place total cs)))
wide_case total w cs rest l wide =
    let large = lt-leb (digits_value 10 w) 9223372036854775807 wide in
    leads_cases total Number w cs rest _ l (number_opens w cs rest l) (rw large refl)

slash_symbol : is_symbol (47 ∷ []) ≡ true
slash_symbol = lone_is 47

nothing_case : (total : ℕ) (cs : List ℕ) → BeginsNothing cs → Cases total cs (fault (BadChar (place total cs)))
nothing_case total cs n =
    subst (λ xs. Cases total xs (fault (BadChar (place total xs)))) (sym n.written)
    (word_case total n.first n.rest _ n.no_blank (not_slash n.first n.rest (λ slash. n.no_word Symbol (47 ∷ []) n.rest slash_symbol (n.written ∙ ap (λ x. x ∷ n.rest) slash))) n.no_quote
    (inr record { no_word = λ kind w more s same. n.no_word kind w more s (n.written ∙ same); is = refl }))

wrong_cases : (total : ℕ) (cs : List ℕ) (f : LexFault) → IsWrong total cs f → Cases total cs (fault f)
wrong_cases total (c ∷ d ∷ cs) f (open_comment none) = sym (ap (closing_piece total (47 ∷ 42 ∷ cs)) none)
wrong_cases total cs f (open_text text ends) = open_case total cs _ text ends
wrong_cases total cs f (bad_escape text bad) = bad_case total cs _ text bad
wrong_cases total cs f (too_wide l wide) = wide_case total _ cs _ l wide
wrong_cases total cs f (bad_char n) = nothing_case total cs n

first_cases : (total : ℕ) (cs : List ℕ) (p : Piece) → First total cs p → Cases total cs p
first_cases total cs (gap rest) h = gap_cases total cs rest h
first_cases total cs (word kind rest) h = token_cases total kind cs rest h
first_cases total cs (fault f) h = wrong_cases total cs f h

pub first_once : (total : ℕ) (cs : List ℕ) (p q : Piece) → First total cs p → First total cs q → p ≡ q
first_once total cs p q h h' = cases_once total cs p q (first_cases total cs p h) (first_cases total cs q h')

pub nothing_first : (total : ℕ) (p : Piece) → First total [] p → ⊥
nothing_first total p h = first_cases total [] p h
