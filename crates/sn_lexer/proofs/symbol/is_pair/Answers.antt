use Rattle.std.proofs.Common.{sym, ◌∙◌}
use Rattle.sn_lexer.proofs.Tables.{pair_is}
use Rattle.sn_lexer.proofs.symbol.is_pair.Goals as goal

pub returns : goal.returns
returns c = c.contains.ensures.value ∙ sym (pair_is c.args.first c.args.second)
