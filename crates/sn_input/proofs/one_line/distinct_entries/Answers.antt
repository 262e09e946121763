use Rattle.std.proofs.Common.{ap, inl, inr}
use Rattle.std.specs.Prelude.{Err}
use Rattle.std.proofs.lemmas.Result.{err_from_is_err_and}
use Rattle.sn_input.specs.OneLine.{GivesLine}
use Rattle.sn_input.proofs.OneLine.{repeats_refuse}
use Rattle.sn_input.proofs.one_line.distinct_entries.Goals as goal

pub returns-in_err-refuse_repeats-in-Ok-clause-refused : goal.returns-in_err-refuse_repeats-in-Ok-clause-refused
returns-in_err-refuse_repeats-in-Ok-clause-refused c =
    let p = err_from_is_err_and c.from_residual.result c.from_residual.ensures.1 in
    let refused = rw c.as_slice.ensures at c.in_err-refuse_repeats-in-Ok.ensures.refused in
    rw (p.1, p.2)
    (elim refused [
      | inl memory ↦ inl memory
      | inr again ↦ inr (λ names. repeats_refuse names c.args.line.now c.in-Ok.entries _ c.in-Ok.ensures.answer.spelled again)
    ])

pub returns-in-Err-Wrong-clause-refused : goal.returns-in-Err-Wrong-clause-refused
returns-in-Err-Wrong-clause-refused c = inr (λ names. GivesLine.bad_line c.requires (c.in-Err-Wrong.ensures.wrong (ap Err c.in-Err-Wrong.field-0-is)))
