use Rattle.std.proofs.Common.{rules, subst, w64, FitsSigned}
use Rattle.std.proofs.lemmas.Int.{to_z-of_z}
use Rattle.sn_terminal.specs.Words.{IsSpelled, name, tag, number, literal, keyword, symbol}
use Rattle.sn_terminal.proofs.Bytes.{is_tag, number_digits, number_fits, is_text, is_keyword_word, is_symbol_word}
use Rattle.sn_terminal.proofs.token.say.Goals as goal

pub name_in-requires : goal.name_in-requires
name_in-requires c = is_tag c.args.word.now (subst (λ k. IsSpelled k c.args.word.now) c.in-Tag.is c.requires.spelled)

pub value_of-requires-clause-numeral : goal.value_of-requires-clause-numeral
value_of-requires-clause-numeral c = number_digits c.args.word.now (subst (λ k. IsSpelled k c.args.word.now) c.in-Number.is c.requires.spelled)

pub value_of-requires-clause-fits : goal.value_of-requires-clause-fits
value_of-requires-clause-fits c = number_fits c.args.word.now (subst (λ k. IsSpelled k c.args.word.now) c.in-Number.is c.requires.spelled)

pub content_of-requires : goal.content_of-requires
content_of-requires c = is_text c.args.word.now (subst (λ k. IsSpelled k c.args.word.now) c.in-Text.is c.requires.spelled)

pub unreachable-requires : goal.unreachable-requires
unreachable-requires c =
    let one = is_keyword_word c.args.word.now (subst (λ k. IsSpelled k c.args.word.now) c.in-Keyword.is c.requires.spelled) in
    c.in-None.ensures one.0 one.1

pub unreachable-requires-in-None-symbol : goal.unreachable-requires-in-None-symbol
unreachable-requires-in-None-symbol c =
    let one = is_symbol_word c.args.word.now (subst (λ k. IsSpelled k c.args.word.now) c.in-Symbol.is c.requires.spelled) in
    c.in-None-symbol.ensures one.0 one.1

pub returns-in_ok-name-in-Ident : goal.returns-in_ok-name-in-Ident
returns-in_ok-name-in-Ident c = rw (c.in-Ident.is, c.in_ok-name-in-Ident.ensures) name

pub returns-in_ok-name-in-Tag : goal.returns-in_ok-name-in-Tag
returns-in_ok-name-in-Tag c = rw (c.in-Tag.is, c.in_ok-name-in-Tag.ensures) (tag c.name_in.ensures)

pub returns-in-Number : goal.returns-in-Number
returns-in-Number c =
    let fits : FitsSigned w64 c.value_of.result = search rules in
    rw (c.in-Number.is, to_z-of_z w64 c.value_of.result fits, c.value_of.ensures) number

pub returns-in_ok-content_of-in-Text : goal.returns-in_ok-content_of-in-Text
returns-in_ok-content_of-in-Text c = rw c.in-Text.is (literal c.in_ok-content_of-in-Text.ensures)

pub returns-in-Some : goal.returns-in-Some
returns-in-Some c = rw c.in-Keyword.is (keyword c.in-Some.ensures)

pub returns-in-Some-symbol : goal.returns-in-Some-symbol
returns-in-Some-symbol c = rw c.in-Symbol.is (symbol c.in-Some-symbol.ensures)
