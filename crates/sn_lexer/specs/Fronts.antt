-- What the readers answer of the characters in front.
use Rattle.std.specs.Prelude.{◌≡◌, ℕ, ◌≤◌, ◌-◌, ◌^◌, min, ◌⊎◌, Bool, true, false, not, ◌&&◌, ◌==◌, IsTrue, List, [], ◌∷◌, ◌++◌, length, if◌then◌else◌}
use Rattle.std.specs.List.{list_all}
use Rattle.std.specs.Char.{is_ascii_digit}
use Rattle.std.specs.Str.{chars}
use Rattle.std.specs.Str.Parse.{digits_value}
use Rattle.unicode_ident.specs.Ident.{is_xid_continue}
use Rattle.sn_lexer.specs.declared.token.TokenKind.{TokenKind}
use Rattle.sn_lexer.specs.declared.token.TokenKind.TheVariants.{Ident, Keyword}
use Rattle.sn_lexer.specs.declared.token.Token.{Token}
use Rattle.sn_lexer.specs.declared.token.LexFault.{LexFault}
use Rattle.sn_lexer.specs.declared.token.LexFault.TheVariants.{Memory}
use Rattle.sn_lexer.specs.declared.quoted.Inside.{Inside}
use Rattle.sn_lexer.specs.declared.quoted.Inside.TheVariants.{Goes, Closes, Open, Wrong}
use Rattle.sn_lexer.specs.Spelling.{is_name, is_keyword, is_symbol, is_printable, escaped, IsTag}
use Rattle.sn_lexer.specs.Gaps.{is_blank, opens_comment, IsGap}
use Rattle.sn_lexer.specs.Lexes.{IsBadEscape, IsToken, IsWrong, leaves_open, token_at}

-- what follows the characters in front that pass the test
abbrev pub past : (ℕ → Bool) → List ℕ → List ℕ
past test [] = []
past test (c ∷ cs) = if test c then past test cs else c ∷ cs

-- the first character, if any, fails the test
abbrev pub Stops : (ℕ → Bool) → List ℕ → Type 0
Stops test [] = Unit {0}
Stops test (c ∷ cs) = test c ≡ false

-- the first character is another
abbrev pub BeginsNot : ℕ → List ℕ → Type 0
BeginsNot c cs = Stops (λ first. first == c) cs

-- what follows the `#` in front, if one is there
abbrev pub SkipsMark : List ℕ → List ℕ → Type 0
SkipsMark cs rest = (cs ≡ 35 ∷ rest) ⊎ ((cs ≡ rest) × BeginsNot 35 cs)

-- a whole name in front: as far as characters continue it
pub record IsNameUpTo (kind : TokenKind) (cs rest : List ℕ) : Type 0 where
  pub name : List ℕ
  pub named : IsTrue (is_name name)
  pub kind_is : kind ≡ (if is_keyword name then Keyword else Ident)
  pub front : cs ≡ name ++ rest
  pub stops : Stops is_xid_continue rest

-- no tag is in front
abbrev pub BeginsNoTag : List ℕ → Type 0
BeginsNoTag cs = (word more : List ℕ) → IsTag word → cs ≡ word ++ more → ⊥

-- all the digits in front, and their value where it fits in 64 bits
pub record IsNumeralUpTo (cs : List ℕ) (value : ℕ) (rest : List ℕ) : Type 0 where
  pub digits : List ℕ
  pub all_digits : list_all is_ascii_digit digits ≡ true
  pub front : cs ≡ digits ++ rest
  pub value_is : value ≡ min (digits_value 10 digits) (2 ^ 64 - 1)
  pub stops : Stops is_ascii_digit rest

-- no symbol is in front
abbrev pub BeginsNoSymbol : List ℕ → Type 0
BeginsNoSymbol cs = (word more : List ℕ) → IsTrue (is_symbol word) → cs ≡ word ++ more → ⊥

-- the longest symbol in front
pub record IsSymbolUpTo (cs rest : List ℕ) : Type 0 where
  pub word : List ℕ
  pub symbol : IsTrue (is_symbol word)
  pub front : cs ≡ word ++ rest
  pub longest : (other more : List ℕ) → IsTrue (is_symbol other) → cs ≡ other ++ more → length other ≤ length word

-- no end, no blank and no comment is in front
abbrev pub is_at_word : List ℕ → Bool
is_at_word [] = false
is_at_word (c ∷ cs) = not (is_blank c) && not (opens_comment (c ∷ cs))

-- one step within a text
abbrev pub IsStep : List ℕ → Inside → Type 0
IsStep cs (Goes rest) = (c : ℕ) × IsTrue (is_printable c) × (cs ≡ escaped c ++ chars rest.now)
IsStep cs (Closes rest) = cs ≡ 34 ∷ chars rest.now
IsStep cs Open = IsTrue (leaves_open cs)
IsStep cs Wrong = IsBadEscape cs

-- the token or the gap in front was passed, and `after` is `before` with that token
pub data Advances (total : ℕ) : List ℕ → List Token → List Token → List ℕ → Type 0 where
  past_gap : {cs rest : List ℕ} {before after : List Token} → IsGap cs rest → after ≡ before → Advances total cs before after rest
  past_token : {cs rest : List ℕ} {before after : List Token} → (kind : TokenKind) → IsToken kind cs rest → after ≡ before ++ token_at total kind cs rest ∷ [] → Advances total cs before after rest

-- want of memory, or what stands in front is refused
abbrev pub IsStopped : ℕ → List ℕ → LexFault → Type 0
IsStopped total cs fault = (fault ≡ Memory) ⊎ IsWrong total cs fault
