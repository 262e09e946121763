use Rattle.std.proofs.Common.{rules, tests, refl, ap, map}
use Rattle.std.proofs.lemmas.Iterator.{YieldsList-from_slice}
use Rattle.std.proofs.lemmas.Iterator.Search.{find_from_yields_List}
use Rattle.sn_terminal.proofs.Tables.{has_word, plain, found_entry, found_nothing, symbol_table, symbol_found, no_symbol}
use Rattle.sn_terminal.proofs.words.symbol.Goals as goal

pub returns-in_err-entry : goal.returns-in_err-entry
returns-in_err-entry c =
    let ran = find_from_yields_List {v = λ x. x.now} (λ e. has_word c.args.word.now (plain e)) _ _ _ c.find.ensures.ran (YieldsList-from_slice c.iter.result.rest.now refl) (λ x b q k. search (rules, tests)) in
    rw c.from_residual.ensures (no_symbol c.args.word.now
    (found_nothing c.args.word.now c.iter.result.rest.now symbol_table c.find.result ran (ap (map plain) c.iter.ensures.rest) c.in_err-entry.was))

pub returns : goal.returns
returns c =
    let ran = find_from_yields_List {v = λ x. x.now} (λ e. has_word c.args.word.now (plain e)) _ _ _ c.find.ensures.ran (YieldsList-from_slice c.iter.result.rest.now refl) (λ x b q k. search (rules, tests)) in
    symbol_found c.args.word.now (plain c.in_ok-entry.entry.now)
    (found_entry c.args.word.now c.iter.result.rest.now symbol_table c.find.result ran (ap (map plain) c.iter.ensures.rest) c.in_ok-entry.entry c.in_ok-entry.was)
