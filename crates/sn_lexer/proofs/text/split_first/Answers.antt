use Rattle.std.proofs.lemmas.Str.{chars_past_char}
use Rattle.sn_lexer.proofs.text.split_first.Goals as goal

pub returns : goal.returns
returns c = rw c.as_str.ensures (chars_past_char _ _ _ c.utf8.text (rw c.chars-chars.ensures.rest at c.in_ok-first.ensures.steps.0))
