-- A line of blanks alone spells no entries.
use Rattle.std.proofs.Common.{◌≡◌, ℕ, ◌<◌, ◌||◌, ◌==◌, true, false, IsTrue, List, [], ◌∷◌, ◌++◌, refl, sym, ap, ◌∙◌, subst, inl, inr, arith}
use Rattle.std.specs.List.{list_all}
use Rattle.std.specs.Str.{chars, IsAscii}
use Rattle.std.specs.Str.Parse.{IsNumeral, without_leading_sign}
use Rattle.std.proofs.lemmas.Bool.{false≢true, false_from_ne_true, and_parts, or_cases, eqb-true}
use Rattle.std.proofs.lemmas.Bool.Decides.{nat_tests}
use Rattle.std.proofs.lemmas.Str.{chars-IsAscii}
use Rattle.std.proofs.lemmas.Str.Ascii.{IsAscii-nil, IsAscii-cons}
use Rattle.sn_lexer.specs.Spelling.{is_name}
use Rattle.sn_lexer.proofs.Heads.{starts_above}
use Rattle.sn_record_tokens.specs.declared.token.Mark.TheVariants as mark
use Rattle.sn_record_tokens.specs.declared.token.Token.{Token}
use Rattle.sn_record_tokens.specs.declared.token.Token.TheVariants.{Mark, Name, Tag, Number, Text}
use Rattle.sn_record_tokens.specs.Tokens.{is_blank, Spells, IsToken, Tokens}
use Rattle.sn_record_parser.specs.declared.entry.Entry.{Entry}
use Rattle.sn_record_parser.specs.Grammar.{IsLine}
use Rattle.sn_input.specs.Line.{is_blank_line, SpellsLine}

-- what does not begin with a blank
pub record BeginsWord (cs : List ℕ) : Type 0 where
  pub first : ℕ
  pub rest : List ℕ
  pub front : cs ≡ first ∷ rest
  pub word : is_blank first ≡ false

name_word : (word : List ℕ) → IsTrue (is_name word) → BeginsWord word
name_word [] name = absurd (false≢true name)
name_word (c ∷ cs) name =
    let starts = starts_above c (and_parts _ _ name).0 in
    record { first = c; rest = cs; front = refl; word = grind (arith, nat_tests) }

-- no blank begins a number
number_blank : (c : ℕ) (cs : List ℕ) → IsNumeral 10 (without_leading_sign (c ∷ cs)) → is_blank c ≡ true → ⊥
number_blank c cs digits blank =
    let at : (b : ℕ) → c ≡ b → IsNumeral 10 (without_leading_sign (b ∷ cs)) = λ b e. subst (λ x. IsNumeral 10 (without_leading_sign (x ∷ cs))) e digits in
    elim (or_cases ((c == 32) || (c == 9)) (c == 13) blank) [
      | inl first ↦
          elim (or_cases (c == 32) (c == 9) first) [
            | inl is ↦ let small : 36 < 10 = (at 32 (eqb-true c 32 is)).1.0 in absurd (omega arith)
            | inr is ↦ let small : 36 < 10 = (at 9 (eqb-true c 9 is)).1.0 in absurd (omega arith)
          ]
      | inr is ↦ let small : 36 < 10 = (at 13 (eqb-true c 13 is)).1.0 in absurd (omega arith)
    ]

number_word : (word : List ℕ) → IsNumeral 10 (without_leading_sign word) → BeginsWord word
number_word [] digits = absurd (omega (arith, digits.0))
number_word (c ∷ cs) digits = record { first = c; rest = cs; front = refl; word = false_from_ne_true (is_blank c) (number_blank c cs digits) }

-- a token begins with no blank
token_word : (token : Token) (word : List ℕ) → Spells token word → BeginsWord word
token_word (Mark mark.OpenRecord) word is = record { first = 123; rest = []; front = is; word = refl }
token_word (Mark mark.CloseRecord) word is = record { first = 125; rest = []; front = is; word = refl }
token_word (Mark mark.OpenList) word is = record { first = 91; rest = []; front = is; word = refl }
token_word (Mark mark.CloseList) word is = record { first = 93; rest = []; front = is; word = refl }
token_word (Mark mark.Comma) word is = record { first = 44; rest = []; front = is; word = refl }
token_word (Mark mark.Equals) word is = record { first = 61; rest = []; front = is; word = refl }
token_word (Name bytes) word spelled = name_word word spelled.name
token_word (Tag bytes) word spelled = record { first = 60; rest = _; front = spelled.written; word = refl }
token_word (Number n) word spelled = number_word word spelled.digits
token_word (Text bytes) word spelled = record { first = 34; rest = _; front = spelled.written; word = refl }

no_token : (token : Token) (cs rest : List ℕ) → IsTrue (list_all is_blank cs) → IsToken token cs rest → ⊥
no_token token cs rest blank is =
    let begins = token_word token is.word is.spelled in
    let front : cs ≡ begins.first ∷ (begins.rest ++ rest) = is.front ∙ ap (λ word. word ++ rest) begins.front in
    let all = subst (λ xs. IsTrue (list_all is_blank xs)) front blank in
    false≢true (sym begins.word ∙ (and_parts _ _ all).0)

-- blanks have no tokens
pub no_tokens : {cs : List ℕ} {tokens : List Token} → IsTrue (list_all is_blank cs) → Tokens cs tokens → tokens ≡ []
no_tokens blank Tokens.end = refl
no_tokens blank (Tokens.blank is more) = no_tokens (and_parts _ _ blank).1 more
no_tokens blank (Tokens.token is more) = absurd (no_token _ _ _ blank is)

blank_small : (c : ℕ) → IsTrue (is_blank c) → c < 128
blank_small c blank = grind (arith, nat_tests)

blank_ascii : (line : List ℕ) → IsTrue (is_blank_line line) → IsAscii line
blank_ascii [] blank = IsAscii-nil
blank_ascii (c ∷ cs) blank =
    let parts = and_parts (is_blank c) (list_all is_blank cs) blank in
    IsAscii-cons c cs (blank_small c parts.0) (blank_ascii cs parts.1)

no_line : {entries : List Entry} → IsLine [] entries → ⊥
no_line line = elim line [ ]

pub blank_spells_none : (line : List ℕ) (entries : List Entry) → IsTrue (is_blank_line line) → SpellsLine line entries → ⊥
blank_spells_none line entries blank spelled =
    let same : chars line ≡ line = chars-IsAscii line (blank_ascii line blank) in
    let none = no_tokens (subst (λ cs. IsTrue (list_all is_blank cs)) (sym same) blank) spelled.scanned in
    no_line (subst (λ tokens. IsLine tokens entries) none spelled.parsed)
