-- What the readers answer of the characters in front.
use Rattle.std.specs.Prelude.{◌≡◌, ℕ, ℤ, pos, neg_ℤ, Bool, false, ◌&&◌, ◌==◌, IsTrue, List, [], ◌∷◌, ◌++◌, FitsSigned, if◌then◌else◌}
use Rattle.std.specs.Int.{w64}
use Rattle.std.specs.Char.{is_ascii_digit}
use Rattle.std.specs.Str.Parse.{digits_value}
use Rattle.sn_lexer.specs.Spelling.{is_numeral, is_printable, is_escapable, escaped}
use Rattle.sn_lexer.specs.Fronts.{Stops}
use Rattle.sn_record_tokens.specs.declared.token.Token.{Token}
use Rattle.sn_record_tokens.specs.declared.token.TokenFault.{TokenFault}
use Rattle.sn_record_tokens.specs.declared.token.TokenFault.TheVariants.{Wrong, Memory}
use Rattle.sn_record_tokens.specs.Tokens.{is_blank, IsToken, Tokens}

-- no token of this form is in front
abbrev pub BeginsNo : {X : Type 0} → (X → Token) → List ℕ → Type 0
BeginsNo {X} form cs = (x : X) (rest : List ℕ) → ¬ (IsToken (form x) cs rest)

abbrev pub begins_escapable : List ℕ → Bool
begins_escapable [] = false
begins_escapable (c ∷ cs) = is_escapable c

-- a character of a text is in front
abbrev pub has_content : List ℕ → Bool
has_content [] = false
has_content (c ∷ cs) = if is_escapable c then (c == 92) && begins_escapable cs else is_printable c

-- it is this one
pub record IsContent (c : ℕ) (cs rest : List ℕ) : Type 0 where
  pub printable : IsTrue (is_printable c)
  pub front : cs ≡ escaped c ++ rest

abbrev pub with_sign : Bool → ℕ → ℤ
with_sign negative size = if negative then neg_ℤ (pos size) else pos size

-- digits are in front, and with this sign they say a number of 64 bits
pub record IsSized (negative : Bool) (n : ℤ) (cs rest : List ℕ) : Type 0 where
  pub digits : List ℕ
  pub numeral : IsTrue (is_numeral digits)
  pub front : cs ≡ digits ++ rest
  pub value : n ≡ with_sign negative (digits_value 10 digits)
  pub fits : FitsSigned w64 n
  pub stops : Stops is_ascii_digit rest

-- the blank or the token in front was passed, and `after` is `before` with that token
pub data Advances : List ℕ → List Token → List Token → List ℕ → Type 0 where
  past_blank : {c : ℕ} {cs rest : List ℕ} {before after : List Token} → IsTrue (is_blank c) → cs ≡ c ∷ rest → after ≡ before → Advances cs before after rest
  past_token : {cs rest : List ℕ} {token : Token} {before after : List Token} → IsToken token cs rest → after ≡ before ++ token ∷ [] → Advances cs before after rest

-- what a fault says of the characters; want of memory says nothing
abbrev pub IsFault : List ℕ → TokenFault → Type 0
IsFault cs Wrong = (tokens : List Token) → ¬ (Tokens cs tokens)
IsFault cs Memory = Unit {0}
