-- What a feed prints of all the lines of its input that count.
use Rattle.std.specs.Prelude.{ℕ, ◌≤◌, List, length, nat_lt}
use Rattle.std.specs.List.{All}
use Rattle.sn_input.specs.Line.{lines_of}
use Rattle.sn_pieces.specs.Lines.{Reading, most_line}
use Rattle.sn_feed.specs.declared.feed.TheConstants.{MOST_INPUT}
use Rattle.sn_output.specs.Printed.{ending, printed}
use Rattle.sn_plain.specs.Feeding.{Fed, answer_of, refused_behind}
use Rattle.sn_plain.specs.Runs.{Printout}

-- what stands before the first refused line is answered and printed, up to the first fault, and behind none that line is told, or else that the
-- input is too long
abbrev pub fed_whole : Fed → List ℕ → Reading → Printout
fed_whole fed bytes reading = record {
  bytes = printed reading.names (answer_of fed reading);
  ending = ending (answer_of fed reading);
  refused = refused_behind (ending (answer_of fed reading)) reading.refused (nat_lt MOST_INPUT (length bytes));
}

-- no line is too long for a feed
abbrev pub AreShort : List ℕ → Type 0
AreShort bytes = All (λ line. length line ≤ most_line) (lines_of bytes)
