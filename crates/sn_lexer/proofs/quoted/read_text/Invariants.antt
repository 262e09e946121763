use Rattle.std.proofs.Common.{length}
use denote.Text.{Utf8}
use denote.Shadow.{shadow}
use Rattle.std.specs.Str.{chars}
use Rattle.sn_lexer.specs.Lexes.{IsTextUpTo}
use Rattle.sn_lexer.proofs.quoted.read_text.Given as goal

abbrev pub invariant-loop-next : goal.invariant-loop-next
invariant-loop-next l = shadow (Utf8 l.rest) × IsTextUpTo (chars l.text) (chars l.rest)

abbrev pub decreases-loop-next : goal.decreases-loop-next
decreases-loop-next l = length (chars l.rest)
