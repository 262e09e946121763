use Rattle.std.proofs.Common.{◌≡◌, ℕ, ◌-◌, List, length, take, drop}
use Rattle.sn_lexer.specs.Spelling.{quoted}
use Rattle.sn_terminal.proofs.Contents.{IsReadUpTo}
use Rattle.sn_terminal.proofs.content.content_of.Given as goal

abbrev pub invariant-loop-byte : goal.invariant-loop-byte
invariant-loop-byte l = (content : List ℕ) → l.word ≡ quoted content →
    IsReadUpTo content l.content l.is_escaped (drop l.byte-index (take (length l.word - 1 - 1) (drop 1 l.word)))
