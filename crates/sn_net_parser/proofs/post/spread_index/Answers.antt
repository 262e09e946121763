use Rattle.sn_net_parser.proofs.Steps.{no_spread_tag, spread_tag_from, spread_tag_to}
use Rattle.sn_net_parser.proofs.post.spread_index.Goals as goal

pub returns-in_default : goal.returns-in_default
returns-in_default c = λ w t. no_spread_tag _ c.in_default.not-Tag

pub returns : goal.returns
returns c = λ w t. rw (c.in-Tag.is, c.split-part.ensures) (spread_tag_from, spread_tag_to)
