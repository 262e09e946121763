-- Which lines of an input count, and what was given for those that were read.
use Rattle.std.specs.Prelude.{ℕ, ◌≤◌, nat_le, nat_lt, if◌then◌else◌, List, [], ◌∷◌, ◌++◌, length, take}
use Rattle.sn_record.specs.declared.item.Item.{Item}
use Rattle.sn_net.specs.declared.net.Claim.{Claim}
use Rattle.sn_model.specs.declared.run.Run.{Run}
use Rattle.sn_input.specs.Line.{lines_of}
use Rattle.sn_pieces.specs.Cuts.{before_last, last_line}
use Rattle.sn_pieces.specs.Lines.{most_line}
use Rattle.sn_feed.specs.Still.{IsAnswerTo, ends}
use Rattle.sn_feed.specs.declared.feed.TheConstants.{MOST_INPUT}

-- the piece of a line is none of its own, unless it is too long already
abbrev pub long_piece : List ℕ → List (List ℕ)
long_piece line = if nat_lt most_line (length line) then line ∷ [] else []

-- the lines that count where the bytes were cut off behind them
abbrev pub whole_lines : List (List ℕ) → List (List ℕ)
whole_lines lines = before_last lines ++ long_piece (last_line lines)

-- the lines of an input that count: all, or where it is too long those that end within the bytes that it may have
abbrev pub counted : List ℕ → List (List ℕ)
counted bytes = if nat_le (length bytes) MOST_INPUT then lines_of bytes else whole_lines (lines_of (take MOST_INPUT bytes))

-- the items and the names are what the lines that ended give, none of which is refused, and the piece behind them is not too long
pub record IsSoFar (run : Run) (claim : Claim) (names : List (List ℕ)) (bytes : List ℕ) (items : List Item) (known : List (List ℕ)) : Type 0 where
  pub answer : IsAnswerTo run claim names (before_last (lines_of bytes)) (ends known items)
  pub short : length (last_line (lines_of bytes)) ≤ most_line
