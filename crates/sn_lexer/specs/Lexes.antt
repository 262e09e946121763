-- The tokens of a source, and the refusals, by its characters.
--
-- `total` is how many bytes the whole source has: it gives each place.
use Rattle.std.specs.Prelude.{◌≡◌, ◌≢◌, ℕ, ◌-◌, ◌<◌, ◌≤◌, Bool, true, false, ◌&&◌, ◌||◌, ◌==◌, not, IsTrue, List, [], ◌∷◌, ◌++◌, length, encode_utf8_all, None}
use Rattle.std.specs.List.{list_all, flat_map}
use Rattle.std.specs.Str.Parse.{digits_value}
use Rattle.sn_lexer.specs.declared.token.TokenKind.{TokenKind}
use Rattle.sn_lexer.specs.declared.token.TokenKind.TheVariants.{Number}
use Rattle.sn_lexer.specs.declared.token.Token.{Token}
use Rattle.sn_lexer.specs.declared.token.LexFault.{LexFault}
use Rattle.sn_lexer.specs.declared.token.LexFault.TheVariants.{BadChar, NumberTooWide, TextOpen}
use Rattle.sn_lexer.specs.Spelling.{Spells, IsWithinLimit, is_printable, is_escapable, escaped}
use Rattle.sn_lexer.specs.Gaps.{is_blank, opens_comment, after_closing, IsGap}

-- how many bytes characters take
abbrev pub width : List ℕ → ℕ
width cs = length (encode_utf8_all cs)

-- the place of what follows: how many bytes stand before it
abbrev pub place : ℕ → List ℕ → ℕ
place total cs = total - width cs

-- no longer front of the characters is a word of any kind
abbrev pub IsLongest : List ℕ → List ℕ → Type 0
IsLongest word cs = (kind : TokenKind) (other more : List ℕ) → Spells kind other → cs ≡ other ++ more → length other ≤ length word

-- the longest word in front of the characters, and what follows it
pub record Leads (kind : TokenKind) (word cs rest : List ℕ) : Type 0 where
  pub spelled : Spells kind word
  pub front : cs ≡ word ++ rest
  pub longest : IsLongest word cs

-- a token in front of the characters, and what follows it
pub record IsToken (kind : TokenKind) (cs rest : List ℕ) : Type 0 where
  pub word : List ℕ
  pub leads : Leads kind word cs rest
  pub within : IsWithinLimit kind word
  pub no_comment : opens_comment cs ≡ false

-- the source's end or a character that no text may have
abbrev pub ends_text : List ℕ → Bool
ends_text [] = true
ends_text (c ∷ cs) = not (is_printable c)

-- the same, also behind a backslash
abbrev pub leaves_open : List ℕ → Bool
leaves_open [] = true
leaves_open (c ∷ cs) = ends_text (c ∷ cs) || ((c == 92) && ends_text cs)

-- an opening quote and content without a fault, and then `rest`
pub record IsTextUpTo (cs rest : List ℕ) : Type 0 where
  pub content : List ℕ
  pub printable : IsTrue (list_all is_printable content)
  pub front : cs ≡ 34 ∷ (flat_map escaped content ++ rest)

-- a backslash and a printable character that needs none
pub record IsBadEscape (cs : List ℕ) : Type 0 where
  pub next : ℕ
  pub rest : List ℕ
  pub front : cs ≡ 92 ∷ next ∷ rest
  pub printable : IsTrue (is_printable next)
  pub needless : is_escapable next ≡ false

-- no gap, no text and no word of any kind stands in front of the characters
pub record BeginsNothing (cs : List ℕ) : Type 0 where
  pub first : ℕ
  pub rest : List ℕ
  pub written : cs ≡ first ∷ rest
  pub no_blank : is_blank first ≡ false
  pub no_quote : first ≢ 34
  pub no_word : (kind : TokenKind) (word more : List ℕ) → Spells kind word → cs ≡ word ++ more → ⊥

-- what stands in front of the characters is refused
pub data IsWrong (total : ℕ) : List ℕ → LexFault → Type 0 where
  open_comment : {cs : List ℕ} → after_closing cs ≡ None → IsWrong total (47 ∷ 42 ∷ cs) (TextOpen (place total (47 ∷ 42 ∷ cs)))
  open_text : {cs rest : List ℕ} → IsTextUpTo cs rest → IsTrue (leaves_open rest) → IsWrong total cs (TextOpen (place total cs))
  bad_escape : {cs rest : List ℕ} → IsTextUpTo cs rest → IsBadEscape rest → IsWrong total cs (BadChar (place total rest))
  too_wide : {cs word rest : List ℕ} → Leads Number word cs rest → 9223372036854775807 < digits_value 10 word → IsWrong total cs (NumberTooWide (place total cs))
  bad_char : {cs : List ℕ} → BeginsNothing cs → IsWrong total cs (BadChar (place total cs))

-- the token between two places
abbrev pub token_at : ℕ → TokenKind → List ℕ → List ℕ → Token
token_at total kind cs rest = record { kind = kind; start = place total cs; end = place total rest }

-- the tokens of the characters
pub data Lexes (total : ℕ) : List ℕ → List Token → Type 0 where
  end : Lexes total [] []
  gap : {cs rest : List ℕ} {tokens : List Token} → IsGap cs rest → Lexes total rest tokens → Lexes total cs tokens
  token : {cs rest : List ℕ} {tokens : List Token} → (kind : TokenKind) → IsToken kind cs rest → Lexes total rest tokens → Lexes total cs (token_at total kind cs rest ∷ tokens)

-- the first refusal in the characters
pub data Refuses (total : ℕ) : List ℕ → LexFault → Type 0 where
  here : {cs : List ℕ} {fault : LexFault} → IsWrong total cs fault → Refuses total cs fault
  after_gap : {cs rest : List ℕ} {fault : LexFault} → IsGap cs rest → Refuses total rest fault → Refuses total cs fault
  after_token : {cs rest : List ℕ} {fault : LexFault} → (kind : TokenKind) → IsToken kind cs rest → Refuses total rest fault → Refuses total cs fault
