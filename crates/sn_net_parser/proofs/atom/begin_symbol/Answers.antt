use Rattle.sn_net_parser.proofs.Steps.{bracket_from, bracket_to, sync_from, sync_to, no_next_symbol}
use Rattle.sn_net_parser.proofs.atom.begin_symbol.Goals as goal

pub returns-in-OpenBracket : goal.returns-in-OpenBracket
returns-in-OpenBracket c = λ w t. rw c.in-OpenBracket.is (bracket_from, bracket_to)

pub returns-in-OpenSync : goal.returns-in-OpenSync
returns-in-OpenSync c = λ w t. rw (c.in-OpenSync.is, c.new.ensures) (sync_from, sync_to)

pub returns-in_default : goal.returns-in_default
returns-in_default c = λ w t. no_next_symbol _ c.in_default.not-OpenParen c.in_default.not-OpenBracket c.in_default.not-OpenSync
