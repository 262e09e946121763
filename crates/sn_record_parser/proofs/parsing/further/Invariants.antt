use Rattle.std.proofs.Common.{length}
use Rattle.sn_record_parser.proofs.Lines.{SoFar}
use Rattle.sn_record_parser.proofs.parsing.further.Given as goal

abbrev pub invariant-loop-rest : goal.invariant-loop-rest
invariant-loop-rest l = SoFar l.fn.rest l.rest l.fn.entries l.entries

abbrev pub decreases-loop-rest : goal.decreases-loop-rest
decreases-loop-rest l = length l.rest
