use Rattle.std.proofs.lemmas.Result.{err_from_is_err_and}
use Rattle.sn_json.proofs.Converted.{entries_refused, json_refused, line_converted, names_refused}
use Rattle.sn_json.proofs.line.line_of_json.Goals as goal

pub returns-in_err-json-clause-refused : goal.returns-in_err-json-clause-refused
returns-in_err-json-clause-refused c =
    let p = err_from_is_err_and c.from_residual.result c.from_residual.ensures.1 in
    rw (p.1, p.2) (json_refused _ _ c.in_err-json.ensures.refused)

pub returns-in_err-entries-clause-refused : goal.returns-in_err-entries-clause-refused
returns-in_err-entries-clause-refused c =
    let p = err_from_is_err_and c.from_residual-in_err-entries.result c.from_residual-in_err-entries.ensures.1 in
    rw (p.1, p.2) (entries_refused _ _ _ c.in_ok-json.ensures.json c.in_err-entries.ensures.refused)

pub returns-clause-line : goal.returns-clause-line
returns-clause-line c = line_converted _ _ _ c.in_ok-json.ensures.json c.in_ok-entries.ensures.entries _ c.line_of_entries.ensures.line c.line_of_entries.ensures.few

pub returns-clause-refused : goal.returns-clause-refused
returns-clause-refused c = names_refused _ _ _ c.in_ok-json.ensures.json c.in_ok-entries.ensures.entries _ c.line_of_entries.ensures.refused
