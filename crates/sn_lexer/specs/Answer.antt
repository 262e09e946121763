-- What it means to lex the bytes of a source.
use Rattle.std.specs.Prelude.{◌≡◌, ℕ, List, length}
use Rattle.std.specs.Str.{IsUtf8, chars}
use Rattle.std.specs.Str.Lossy.{utf8_valid_len}
use Rattle.sn_lexer.specs.declared.token.Token.{Token}
use Rattle.sn_lexer.specs.declared.token.LexFault.{LexFault}
use Rattle.sn_lexer.specs.declared.token.LexFault.TheVariants.{BadUtf8, Memory}
use Rattle.sn_lexer.specs.Lexes.{Lexes, Refuses}

-- the tokens of a source
pub record LexesAs (source : List ℕ) (tokens : List Token) : Type 0 where
  pub utf8 : IsUtf8 source
  pub lexes : Lexes (length source) (chars source) tokens

-- the refusal of a source that is well-formed text
pub record IsRefused (source : List ℕ) (fault : LexFault) : Type 0 where
  pub utf8 : IsUtf8 source
  pub refuses : Refuses (length source) (chars source) fault

-- what a fault says of the source; want of memory says nothing
abbrev pub IsFault : List ℕ → LexFault → Type 0
IsFault source (BadUtf8 at) = (¬ (IsUtf8 source)) × (at ≡ utf8_valid_len source)
IsFault source Memory = Unit {0}
IsFault source fault = IsRefused source fault
