use Rattle.std.proofs.Common.{take}
use Rattle.sn_parser.proofs.Reaching.{ReachesAll}
use Rattle.sn_parser.proofs.parsing.declarations.Given as goal

abbrev pub invariant-loop-token : goal.invariant-loop-token
invariant-loop-token l = ReachesAll l.source (take l.token-index l.tokens) l.parser
