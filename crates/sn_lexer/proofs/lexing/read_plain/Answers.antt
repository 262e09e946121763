use Rattle.std.specs.Str.{chars}
use Rattle.sn_lexer.proofs.Tokens.{name_token, symbol_token, nothing_wrong, at_no_comment}
use Rattle.sn_lexer.proofs.lexing.read_plain.Goals as goal

pub returns-in-Some : goal.returns-in-Some
returns-in-Some c = name_token _ _ _ c.in-Some.ensures

pub returns-in-Some-read_symbol : goal.returns-in-Some-read_symbol
returns-in-Some-read_symbol c = symbol_token _ _ c.in-Some-read_symbol.ensures c.in_default-read_tag.ensures (at_no_comment (chars c.args.text.now) c.requires.word)

pub returns-in-None : goal.returns-in-None
returns-in-None c = rw c.place.ensures (nothing_wrong _ _ c.requires.word c.in_default.ensures c.requires.no_digit c.requires.no_quote c.in_default-read_tag.ensures c.in-None.ensures)
