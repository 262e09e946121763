use Rattle.sn_net_parser.proofs.Steps.{no_link}
use Rattle.sn_net_parser.proofs.post.unlinked.Goals as goal

pub returns-in_default : goal.returns-in_default
returns-in_default c = λ w t. no_link _ c.requires c.in_default.not-Dots c.in_default.not-CloseParen c.in_default.not-Semicolon
