use Rattle.sn_net_parser.proofs.Steps.{mark_from, mark_to, no_mark}
use Rattle.sn_net_parser.proofs.post.marked.Goals as goal

pub returns-in-At : goal.returns-in-At
returns-in-At c = λ w t. rw c.in-At.is (mark_from, mark_to)

pub returns-in_default : goal.returns-in_default
returns-in_default c = λ w t. no_mark _ c.in_default.not-At
