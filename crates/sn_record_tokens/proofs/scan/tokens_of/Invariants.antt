use Rattle.std.proofs.Common.{length}
use denote.Text.{Utf8}
use denote.Shadow.{shadow}
use Rattle.std.specs.Str.{chars}
use Rattle.sn_record_tokens.proofs.Walks.{Reaches}
use Rattle.sn_record_tokens.proofs.scan.tokens_of.Given as goal

abbrev pub invariant-loop-tokens : goal.invariant-loop-tokens
invariant-loop-tokens l = shadow (Utf8 l.rest) × Reaches (chars l.line) l.tokens (chars l.rest)

abbrev pub decreases-loop-tokens : goal.decreases-loop-tokens
decreases-loop-tokens l = length (chars l.rest)
