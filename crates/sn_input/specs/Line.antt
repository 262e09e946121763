-- The lines of a record file, and what one says.
use Rattle.std.specs.Prelude.{ℕ, Bool, ◌==◌, List}
use Rattle.std.specs.List.{list_all, slice_split}
use Rattle.std.specs.Str.{chars, IsUtf8}
use Rattle.sn_record_tokens.specs.declared.token.Token.{Token}
use Rattle.sn_record_tokens.specs.Tokens.{is_blank, Tokens}
use Rattle.sn_record_parser.specs.declared.entry.Entry.{Entry}
use Rattle.sn_record_parser.specs.Grammar.{IsLine}

-- what stands between line feeds; the last line may lack its own
abbrev pub lines_of : List ℕ → List (List ℕ)
lines_of bytes = slice_split (λ byte. byte == 10) bytes

abbrev pub is_blank_line : List ℕ → Bool
is_blank_line line = list_all is_blank line

-- the line is well-formed text, whose tokens spell the entries
pub record SpellsLine (line : List ℕ) (entries : List Entry) : Type 0 where
  pub utf8 : IsUtf8 line
  pub tokens : List Token
  pub scanned : Tokens (chars line) tokens
  pub parsed : IsLine tokens entries
