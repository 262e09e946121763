use Rattle.sn_net_parser.proofs.Steps.{no_tag, tag_from, tag_to}
use Rattle.sn_net_parser.proofs.post.index.Goals as goal

pub returns-in-Tag : goal.returns-in-Tag
returns-in-Tag c = λ w t. rw (c.in-Tag.is, c.split.ensures) (tag_from, tag_to)

pub returns-in_default : goal.returns-in_default
returns-in_default c = λ w t. no_tag _ c.in_default.not-Tag c.in_default.not-Symbol
