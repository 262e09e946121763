use Rattle.std.proofs.Common.{◌∙◌, sym}
use Rattle.std.proofs.lemmas.Result.{err_from_is_err_and}
use Rattle.sn_record_parser.proofs.Faults.{if_wrong, is_wrong}
use Rattle.sn_record_parser.proofs.Lines.{line_empty, line_has, line_unfinished, line_unopened}
use Rattle.sn_record_parser.proofs.parsing.line.Goals as goal

pub returns-in_err-want : goal.returns-in_err-want
returns-in_err-want c =
    let p = err_from_is_err_and c.from_residual.result c.from_residual.ensures.1 in
    rw (p.1, p.2) (is_wrong _ c.in_err-want.ensures (line_unopened c.of-rest.ensures))

pub returns-then-is_mark : goal.returns-then-is_mark
returns-then-is_mark c = rw c.new-entries.ensures (line_empty (sym c.of-rest.ensures ∙ c.in_ok-want.ensures) c.in_ok-first.ensures (c.is_mark.ensures.0 c.if-is_mark.true) c.in_ok-end.ensures)

pub returns-in_err-further : goal.returns-in_err-further
returns-in_err-further c =
    let p = err_from_is_err_and c.from_residual-in_err-further.result c.from_residual-in_err-further.ensures.1 in
    rw (p.1, p.2) (if_wrong _ c.in_err-further.ensures (line_unfinished (sym c.of-rest.ensures ∙ c.in_ok-want.ensures) c.in_ok-first.ensures c.in_ok-entry.ensures))

pub returns : goal.returns
returns c = line_has (sym c.of-rest.ensures ∙ c.in_ok-want.ensures) c.in_ok-first.ensures c.in_ok-entry.ensures (rw (c.in_ok-append.ensures.ok, c.new-entries.ensures) at c.in_ok-further.ensures)
