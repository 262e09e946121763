-- What stands in front, as a token or as a refusal.
--
-- A word, followed by something that does not continue it, is the token: these lemmas say so kind by kind.
use Rattle.std.proofs.Common.{◌≡◌, ℕ, ◌<◌, ◌≤◌, ◌&&◌, ◌||◌, ◌==◌, Bool, true, false, not, List, [], ◌∷◌, ◌++◌, append_assoc, refl, sym, ap, ◌∙◌, subst, inl, inr, arith}
use Rattle.std.specs.Prelude.{if◌then◌else◌}
use Rattle.std.specs.List.{list_all}
use Rattle.std.specs.Char.{is_ascii_digit}
use Rattle.std.specs.Str.Parse.{digits_value}
use Rattle.std.proofs.lemmas.Bool.{false≢true, and_parts, not-true, ne_eqb, eqb-false}
use Rattle.sn_lexer.specs.declared.token.TokenKind.{TokenKind}
use Rattle.sn_lexer.specs.declared.token.TokenKind.TheVariants.{Ident, Keyword, Tag, Number, Text, Symbol}
use Rattle.sn_lexer.specs.declared.token.LexFault.TheVariants.{BadChar, NumberTooWide}
use Rattle.sn_lexer.specs.Spelling.{Spells, IsWithinLimit, starts_name, is_name, is_keyword, is_numeral, is_tag_name, quoted}
use Rattle.sn_lexer.specs.Gaps.{is_blank, opens_comment}
use Rattle.sn_lexer.specs.Lexes.{place, IsLongest, IsToken, IsTextUpTo, IsWrong}
use Rattle.sn_lexer.specs.Lexes.IsWrong.{bad_char, too_wide}
use Rattle.sn_lexer.specs.Fronts.{Stops, BeginsNot, BeginsNoTag, BeginsNoSymbol, IsNameUpTo, IsNumeralUpTo, IsSymbolUpTo, is_at_word}
use Rattle.sn_lexer.proofs.Heads.{starts_above}
use Rattle.sn_lexer.proofs.WordKinds.{no_empty, mark_at, name_starts, digit_above}
use Rattle.sn_lexer.proofs.Contents.{written}
use Rattle.sn_lexer.proofs.Longest.{name_longest, numeral_longest, text_longest, tag_longest, symbol_longest}

pub not_slash : (c : ℕ) (cs : List ℕ) → (c ≡ 47 → ⊥) → opens_comment (c ∷ cs) ≡ false
not_slash c [] other = refl
not_slash c (d ∷ cs) other = ap (λ b. b && ((d == 47) || (d == 42))) (ne_eqb c 47 other)

token_of : (kind : TokenKind) (word rest cs : List ℕ) → Spells kind word → cs ≡ word ++ rest → IsLongest word (word ++ rest) → IsWithinLimit kind word → opens_comment (word ++ rest) ≡ false → IsToken kind cs rest
token_of kind word rest cs spelled front longest within plain =
    subst (λ x. IsToken kind x rest) (sym front) record {
      word = word;
      leads = record { spelled = spelled; front = refl; longest = longest };
      within = within;
      no_comment = plain;
    }

name_opens : (name rest : List ℕ) → is_name name ≡ true → opens_comment (name ++ rest) ≡ false
name_opens [] rest named = absurd (false≢true named)
name_opens (c ∷ name) rest named =
    let large = starts_above c (name_starts c name named) in
    not_slash c (name ++ rest) (λ e. omega arith)

abbrev name_kind : Bool → TokenKind
name_kind b = if b then Keyword else Ident

name_spelled : (name : List ℕ) (b : Bool) → is_keyword name ≡ b → is_name name ≡ true → Spells (name_kind b) name
name_spelled name true keyword named = keyword
name_spelled name false keyword named = rw (named, keyword) refl

name_within : (name : List ℕ) (b : Bool) → IsWithinLimit (name_kind b) name
name_within name true = tt
name_within name false = tt

pub name_token : (kind : TokenKind) (cs rest : List ℕ) → IsNameUpTo kind cs rest → IsToken kind cs rest
name_token kind cs rest n =
    subst (λ k. IsToken k cs rest) (sym n.kind_is)
    (token_of (name_kind (is_keyword n.name)) n.name rest cs (name_spelled n.name (is_keyword n.name) refl n.named) n.front (name_longest n.name rest n.named n.stops) (name_within n.name (is_keyword n.name)) (name_opens n.name rest n.named))

pub tag_token : (name cs rest : List ℕ) → is_tag_name name ≡ true → cs ≡ 60 ∷ (name ++ 62 ∷ rest) → IsToken Tag cs rest
tag_token name cs rest named is =
    let outer = ap (λ xs. 60 ∷ xs) (append_assoc name (62 ∷ []) rest) in
    token_of Tag (60 ∷ (name ++ 62 ∷ [])) rest cs
    record { name = name; named = named; written = refl }
    (is ∙ sym outer)
    (subst (IsLongest (60 ∷ (name ++ 62 ∷ []))) (sym outer) (tag_longest name rest named))
    tt
    (not_slash 60 ((name ++ 62 ∷ []) ++ rest) (λ e. omega arith))

pub text_token : (cs rest : List ℕ) → IsTextUpTo cs (34 ∷ rest) → IsToken Text cs rest
text_token cs rest text =
    let outer = ap (λ xs. 34 ∷ xs) (append_assoc (written text.content) (34 ∷ []) rest) in
    token_of Text (quoted text.content) rest cs
    record { content = text.content; printable = text.printable; written = refl }
    (text.front ∙ sym outer)
    (text_longest text.content rest text.printable)
    tt
    (not_slash 34 ((written text.content ++ 34 ∷ []) ++ rest) (λ e. omega arith))

-- digits in front are a numeral where there is one
numeral_filled : (c : ℕ) (cs digits rest : List ℕ) → c ∷ cs ≡ digits ++ rest → is_ascii_digit c ≡ true → list_all is_ascii_digit digits ≡ true → Stops is_ascii_digit rest → is_numeral digits ≡ true
numeral_filled c cs [] [] is digit all stops = cc
numeral_filled c cs [] (d ∷ rest) is digit all stops =
    let head : c ≡ d = cc in
    absurd (false≢true (sym stops ∙ ap is_ascii_digit (sym head) ∙ digit))
numeral_filled c cs (d ∷ digits) rest is digit all stops = all

numeral_opens : (digits rest : List ℕ) → is_numeral digits ≡ true → opens_comment (digits ++ rest) ≡ false
numeral_opens [] rest numeral = absurd (false≢true numeral)
numeral_opens (c ∷ digits) rest numeral =
    let large = digit_above c (and_parts (is_ascii_digit c) (list_all is_ascii_digit digits) numeral).0 in
    not_slash c (digits ++ rest) (λ e. omega arith)

pub numeral_token : (digits cs rest : List ℕ) → is_numeral digits ≡ true → digits_value 10 digits ≤ 9223372036854775807 → Stops is_ascii_digit rest → cs ≡ digits ++ rest → IsToken Number cs rest
numeral_token digits cs rest numeral within stops is =
    token_of Number digits rest cs numeral is (numeral_longest digits rest numeral stops) within (numeral_opens digits rest numeral)

pub number_token : (c : ℕ) (cs inner : List ℕ) (value : ℕ) (rest : List ℕ) → cs ≡ c ∷ inner → is_ascii_digit c ≡ true → IsNumeralUpTo cs value rest → value ≤ 9223372036854775807 → IsToken Number cs rest
number_token c cs inner value rest is digit n small =
    let filled = numeral_filled c inner n.digits rest (sym is ∙ n.front) digit n.all_digits n.stops in
    let value_is = n.value_is in
    numeral_token n.digits cs rest filled (omega arith) n.stops n.front

pub number_wrong : (total c : ℕ) (cs inner : List ℕ) (value : ℕ) (rest : List ℕ) → cs ≡ c ∷ inner → is_ascii_digit c ≡ true → IsNumeralUpTo cs value rest → 9223372036854775807 < value → IsWrong total cs (NumberTooWide (place total cs))
number_wrong total c cs inner value rest is digit n large =
    let filled = numeral_filled c inner n.digits rest (sym is ∙ n.front) digit n.all_digits n.stops in
    let value_is = n.value_is in
    too_wide {word = n.digits} {rest = rest} record { spelled = filled; front = n.front; longest = subst (IsLongest n.digits) (sym n.front) (numeral_longest n.digits rest filled n.stops) } (omega arith)

pub symbol_token : (cs rest : List ℕ) → IsSymbolUpTo cs rest → BeginsNoTag cs → opens_comment cs ≡ false → IsToken Symbol cs rest
symbol_token cs rest s no_tag plain =
    let longest = symbol_longest s.word rest s.symbol (λ other more symbol same. s.longest other more symbol (s.front ∙ same)) (λ word more tag same. no_tag word more tag (s.front ∙ same)) in
    token_of Symbol s.word rest cs s.symbol s.front longest tt (subst (λ xs. opens_comment xs ≡ false) s.front plain)

at_no_blank : (c : ℕ) (cs : List ℕ) → is_at_word (c ∷ cs) ≡ true → is_blank c ≡ false
at_no_blank c cs h = not-true (is_blank c) (and_parts (not (is_blank c)) (not (opens_comment (c ∷ cs))) h).0

pub at_no_comment : (cs : List ℕ) → is_at_word cs ≡ true → opens_comment cs ≡ false
at_no_comment [] h = refl
at_no_comment (c ∷ cs) h = not-true (opens_comment (c ∷ cs)) (and_parts (not (is_blank c)) (not (opens_comment (c ∷ cs))) h).1

-- where no name, number, text, tag and symbol is in front, nothing is
pub nothing_wrong : (total : ℕ) (cs : List ℕ) → is_at_word cs ≡ true → Stops starts_name cs → Stops is_ascii_digit cs → BeginsNot 34 cs → BeginsNoTag cs → BeginsNoSymbol cs → IsWrong total cs (BadChar (place total cs))
nothing_wrong total [] word starts digit quote no_tag no_symbol = absurd (false≢true word)
nothing_wrong total (c ∷ cs) word starts digit quote no_tag no_symbol =
    let no_quote = eqb-false c 34 quote in
    bad_char record {
      first = c;
      rest = cs;
      written = refl;
      no_blank = at_no_blank c cs word;
      no_quote = no_quote;
      no_word = no_word c cs starts digit no_quote no_tag no_symbol;
    }
  where
    no_word : (c : ℕ) (cs : List ℕ) → starts_name c ≡ false → is_ascii_digit c ≡ false → (c ≡ 34 → ⊥) → BeginsNoTag (c ∷ cs) → BeginsNoSymbol (c ∷ cs) → (kind : TokenKind) (word more : List ℕ) → Spells kind word → c ∷ cs ≡ word ++ more → ⊥
    no_word c cs starts digit quote no_tag no_symbol kind [] more s same = no_empty kind s
    no_word c cs starts digit quote no_tag no_symbol kind (d ∷ word) more s same =
        let head : c ≡ d = cc in
        elim (mark_at kind d word s (ap starts_name (sym head) ∙ starts) (ap is_ascii_digit (sym head) ∙ digit) (λ e. quote (head ∙ e))) [
          | inl tag ↦ no_tag (d ∷ word) more tag same
          | inr symbol ↦ no_symbol (d ∷ word) more symbol same
        ]
