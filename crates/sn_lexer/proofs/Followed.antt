-- Words and what follows them: what a printer needs to show that its text has given tokens.
use Rattle.std.proofs.Common.{◌≡◌, ℕ, ◌≤◌, ◌==◌, true, false, not, List, [], ◌∷◌, ◌++◌, append_assoc, refl, sym, ap, ◌∙◌, inr, arith}
use Rattle.std.specs.Char.{is_ascii_digit}
use Rattle.std.proofs.lemmas.Bool.{false≢true, and_parts, not-true, eqb-true, ne_eqb}
use Rattle.std.proofs.lemmas.Bool.Decides.{nat_tests}
use Rattle.unicode_ident.specs.Ident.{is_xid_continue}
use Rattle.unicode_ident.proofs.IdentLemmas.{is_xid_continue-ascii}
use Rattle.sn_lexer.specs.declared.token.TokenKind.{TokenKind}
use Rattle.sn_lexer.specs.declared.token.TokenKind.TheVariants.{Ident, Keyword, Tag, Number, Text, Symbol}
use Rattle.sn_lexer.specs.Spelling.{Spells, IsWithinLimit, starts_name, is_name, is_keyword, is_symbol, is_identifier}
use Rattle.sn_lexer.specs.Gaps.{is_blank, opens_comment}
use Rattle.sn_lexer.specs.Lexes.{IsToken}
use Rattle.sn_lexer.specs.Fronts.{Stops, BeginsNot, BeginsNoTag}
use Rattle.sn_lexer.proofs.Heads.{keyword_name, starts_above, symbol_second, symbol_filled, symbol_short, pair_no_comment}
use Rattle.sn_lexer.proofs.WordKinds.{digit_above, fails}
use Rattle.sn_lexer.proofs.Longest.{pair_no_tag}
use Rattle.sn_lexer.proofs.Symbols.{NoPair, pair_symbol, lone_symbol}
use Rattle.sn_lexer.proofs.Tags.{no_tag_open, no_tag_name}
use Rattle.sn_lexer.proofs.Tokens.{name_token, tag_token, text_token, numeral_token, symbol_token}
use Rattle.sn_lexer.proofs.Pieces.{text_up_to}

-- a name that no character continues is an identifier, or a keyword
pub identifier_token : (name rest : List ℕ) → is_identifier name ≡ true → Stops is_xid_continue rest → IsToken Ident (name ++ rest) rest
identifier_token name rest identifier stops =
    let parts = and_parts (is_name name) (not (is_keyword name)) identifier in
    let plain = not-true (is_keyword name) parts.1 in
    name_token Ident (name ++ rest) rest record { name = name; named = parts.0; kind_is = rw plain refl; front = refl; stops = stops }

pub keyword_token : (name rest : List ℕ) → is_keyword name ≡ true → Stops is_xid_continue rest → IsToken Keyword (name ++ rest) rest
keyword_token name rest keyword stops =
    name_token Keyword (name ++ rest) rest record { name = name; named = keyword_name name keyword; kind_is = rw keyword refl; front = refl; stops = stops }

-- a symbol of two characters is a token whatever follows it
pub pair_token : (a b : ℕ) (rest : List ℕ) → is_symbol (a ∷ b ∷ []) ≡ true → IsToken Symbol (a ∷ b ∷ rest) rest
pair_token a b rest symbol =
    symbol_token (a ∷ b ∷ rest) rest (pair_symbol (a ∷ b ∷ rest) a b (b ∷ rest) rest refl refl symbol) (pair_no_tag a b rest symbol) (pair_no_comment a b rest symbol)

-- a symbol of one character, where it begins no longer one, no tag and no comment
pub lone_token : (a : ℕ) (rest : List ℕ) → is_symbol (a ∷ []) ≡ true → NoPair a rest → BeginsNoTag (a ∷ rest) → opens_comment (a ∷ rest) ≡ false → IsToken Symbol (a ∷ rest) rest
lone_token a rest symbol no_pair no_tag plain = symbol_token (a ∷ rest) rest (lone_symbol (a ∷ rest) a rest refl symbol no_pair) no_tag plain

-- the end or a blank
abbrev pub IsApart : List ℕ → Type 0
IsApart [] = Unit {0}
IsApart (c ∷ cs) = is_blank c ≡ true

blank_below : (c : ℕ) → is_blank c ≡ true → c ≤ 32
blank_below c h = grind (arith, nat_tests)

blank_stops : (rest : List ℕ) → IsApart rest → Stops is_xid_continue rest
blank_stops [] apart = tt
blank_stops (c ∷ rest) apart =
    let low = blank_below c apart in
    is_xid_continue-ascii c (omega arith) ∙ grind (arith, nat_tests)

no_digit : (rest : List ℕ) → IsApart rest → Stops is_ascii_digit rest
no_digit [] apart = tt
no_digit (c ∷ rest) apart = let low = blank_below c apart in fails (is_ascii_digit c) (λ h. let high = digit_above c h in omega arith)

no_name : (rest : List ℕ) → IsApart rest → Stops starts_name rest
no_name [] apart = tt
no_name (c ∷ rest) apart = let low = blank_below c apart in fails (starts_name c) (λ h. let high = starts_above c h in omega arith)

no_mark : (rest : List ℕ) → IsApart rest → BeginsNot 35 rest
no_mark [] apart = tt
no_mark (c ∷ rest) apart = let low = blank_below c apart in ne_eqb c 35 (λ e. omega arith)

no_pair : (a : ℕ) (rest : List ℕ) → IsApart rest → NoPair a rest
no_pair a [] apart b more is = cc
no_pair a (c ∷ rest) apart b more is =
    let head : c ≡ b = cc in
    fails (is_symbol (a ∷ b ∷ [])) (λ h. false≢true (sym (symbol_second a b [] h).blank ∙ ap is_blank (sym head) ∙ apart))

no_comment : (a : ℕ) (rest : List ℕ) → IsApart rest → opens_comment (a ∷ rest) ≡ false
no_comment a [] apart = refl
no_comment a (c ∷ rest) apart = let low = blank_below c apart in grind (arith, nat_tests)

no_tag : (a : ℕ) (rest : List ℕ) → IsApart rest → BeginsNoTag (a ∷ rest)
no_tag a rest apart =
    elim (a == 60) as (λ b. (a == 60) ≡ b → BeginsNoTag (a ∷ rest)) [
      | true ↦ λ angle. no_tag_name (a ∷ rest) rest rest (ap (λ x. x ∷ rest) (eqb-true a 60 angle)) (inr (refl, no_mark rest apart)) (no_name rest apart)
      | false ↦ λ other. no_tag_open (a ∷ rest) other
    ] refl

apart_symbol : (word rest : List ℕ) → is_symbol word ≡ true → IsApart rest → IsToken Symbol (word ++ rest) rest
apart_symbol [] rest symbol apart = absurd (symbol_filled symbol)
apart_symbol (a ∷ []) rest symbol apart = lone_token a rest symbol (no_pair a rest apart) (no_tag a rest apart) (no_comment a rest apart)
apart_symbol (a ∷ b ∷ []) rest symbol apart = pair_token a b rest symbol
apart_symbol (a ∷ b ∷ c ∷ word) rest symbol apart = let short = symbol_short (a ∷ b ∷ c ∷ word) symbol in absurd (omega arith)

-- a word of any kind before the end or a blank is a token
pub apart_token : (kind : TokenKind) (word rest : List ℕ) → Spells kind word → IsWithinLimit kind word → IsApart rest → IsToken kind (word ++ rest) rest
apart_token Ident word rest s within apart = identifier_token word rest s (blank_stops rest apart)
apart_token Keyword word rest s within apart = keyword_token word rest s (blank_stops rest apart)
apart_token Tag word rest s within apart =
    tag_token s.name (word ++ rest) rest s.named (ap (λ xs. xs ++ rest) s.written ∙ ap (λ xs. 60 ∷ xs) (append_assoc s.name (62 ∷ []) rest))
apart_token Number word rest s within apart = numeral_token word (word ++ rest) rest s within (no_digit rest apart) refl
apart_token Text word rest s within apart = text_token (word ++ rest) rest (text_up_to word (word ++ rest) rest s refl)
apart_token Symbol word rest s within apart = apart_symbol word rest s apart
