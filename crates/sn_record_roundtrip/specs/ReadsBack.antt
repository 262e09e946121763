-- What it means that the printed line of a record reads back as the record.
use Rattle.std.specs.Prelude.{◌≡◌, ℕ, Bool, not, ◌==◌, IsTrue, List, ◌++◌, None, codes, encode_utf8_all}
use Rattle.std.specs.List.{list_all}
use Rattle.std.specs.Str.{all_scalars}
use Rattle.sn_record.specs.Record.{Entries}
use Rattle.sn_record_tokens.specs.declared.token.Token.{Token}
use Rattle.sn_record_tokens.specs.Tokens.{Tokens}
use Rattle.sn_record_parser.specs.declared.entry.Entry.{Entry}
use Rattle.sn_record_parser.specs.Grammar.{IsLine}
use Rattle.sn_input.specs.Numbered.{with_entries, record_of, repeated}
use Rattle.sn_output.specs.Line.{line}

abbrev pub is_no_line_feed : ℕ → Bool
is_no_line_feed c = not (c == 10)

-- the line is characters without a line feed, and then one; the characters are tokens that spell entries, no label of
-- which stands twice and no name of which is new; and these are the record
pub record ReadsBack (names : List (List ℕ)) (r : Entries) : Type 0 where
  pub characters : List ℕ
  pub scalars : IsTrue (all_scalars characters)
  pub one_line : IsTrue (list_all is_no_line_feed characters)
  pub printed : line names r ≡ encode_utf8_all characters ++ codes "\n"
  pub tokens : List Token
  pub lexed : Tokens characters tokens
  pub entries : List Entry
  pub spelled : IsLine tokens entries
  pub once : repeated entries ≡ None
  pub known : with_entries names entries ≡ names
  pub same : record_of names entries ≡ r
