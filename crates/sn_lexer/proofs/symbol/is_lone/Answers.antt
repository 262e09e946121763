use Rattle.std.proofs.Common.{sym, ◌∙◌}
use Rattle.sn_lexer.proofs.Tables.{lone_is}
use Rattle.sn_lexer.proofs.symbol.is_lone.Goals as goal

pub returns : goal.returns
returns c = c.contains.ensures.value ∙ sym (lone_is c.args.c)
