-- Where the tokens of a source stand in its bytes.
use Rattle.std.specs.Prelude.{◌≡◌, ℕ, ◌-◌, ◌<◌, ◌≤◌, List, [], ◌∷◌, length, take, drop, encode_utf8_all}
use Rattle.sn_lexer.specs.declared.token.Token.{Token}
use Rattle.sn_lexer.specs.Spelling.{Spells, IsWithinLimit}

-- the bytes of a token
abbrev pub spelling : List ℕ → Token → List ℕ
spelling bytes token = take (token.end - token.start) (drop token.start bytes)

-- the token's bytes spell a word of its kind
pub record IsPlaced (bytes : List ℕ) (token : Token) : Type 0 where
  pub rises : token.start < token.end
  pub ends : token.end ≤ length bytes
  pub word : List ℕ
  pub spelled : Spells token.kind word
  pub within : IsWithinLimit token.kind word
  pub written : spelling bytes token ≡ encode_utf8_all word

-- each token stands after the one before it
abbrev pub ArePlaced : List ℕ → ℕ → List Token → Type 0
ArePlaced bytes from [] = Unit {0}
ArePlaced bytes from (token ∷ tokens) = (from ≤ token.start) × IsPlaced bytes token × ArePlaced bytes token.end tokens
