use Rattle.sn_lexer.proofs.Comments.{line_gap, block_gap, comment_open}
use Rattle.sn_lexer.proofs.gap.after_comment.Goals as goal

pub returns-in-Some-eq47-default : goal.returns-in-Some-eq47-default
returns-in-Some-eq47-default c = line_gap _ _ _ _ _ c.in-Some.ensures c.in-Some-eq47-default.ensures c.in-Some-eq47-default.field-0-0-test c.after_line.ensures

pub returns-in-Some-after_closing : goal.returns-in-Some-after_closing
returns-in-Some-after_closing c = block_gap _ _ _ _ _ c.in-Some.ensures c.in-Some-eq42-default.ensures c.in-Some-eq42-default.field-0-0-test c.in-Some-after_closing.ensures

pub returns-in-None : goal.returns-in-None
returns-in-None c = rw c.place.ensures (comment_open _ _ _ _ _ c.in-Some.ensures c.in-Some-eq42-default.ensures c.in-Some-eq42-default.field-0-0-test c.in-None.ensures)
