use Rattle.sn_lexer.proofs.Widths.{width_chars}
use Rattle.sn_lexer.proofs.text.place.Goals as goal

pub returns : goal.returns
returns c = let wide = width_chars c.args.rest.now c.utf8.rest in rw wide c.saturating_sub.ensures
