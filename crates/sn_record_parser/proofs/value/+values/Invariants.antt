use Rattle.std.proofs.Common.{◌+◌, ◌*◌}
use Rattle.sn_record_parser.proofs.Lists.{SoFar, place}
use Rattle.sn_record_parser.proofs.value.+values.Given as goal

abbrev pub decreases-value_from : goal.decreases-value_from
decreases-value_from l = 3 * l.levels + 1

abbrev pub decreases-list : goal.decreases-list
decreases-list l = 3 * l.levels

abbrev pub decreases-more : goal.decreases-more
decreases-more l = 3 * l.levels + 2

abbrev pub invariant-more-loop-rest : goal.invariant-more-loop-rest
invariant-more-loop-rest l = SoFar l.levels (place l.fn.rest l.fn.room) (place l.rest l.left) l.fn.values l.values

abbrev pub decreases-more-loop-rest : goal.decreases-more-loop-rest
decreases-more-loop-rest l = l.left
