use Rattle.sn_box_parser.proofs.Embedded.{part_start}
use Rattle.sn_box_parser.proofs.body.next_part.Goals as goal

pub returns : goal.returns
returns c = λ at. rw c.in_ok-sequence.ensures (part_start _ _ _ _ at c.start.result (c.start.ensures.from, c.start.ensures.to))
