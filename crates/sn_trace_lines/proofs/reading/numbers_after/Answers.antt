use Rattle.sn_trace_lines.proofs.Numbers.{both_behind, no_first, no_second}
use Rattle.sn_trace_lines.proofs.reading.numbers_after.Goals as goal

pub returns-in_err-after : goal.returns-in_err-after
returns-in_err-after c = rw c.from_residual.ensures (λ n m rest small less is. c.in_err-after.ensures _ is)

pub returns-in_err-first : goal.returns-in_err-first
returns-in_err-first c =
    rw c.from_residual-in_err-first.ensures (no_first c.args.text.now c.args.word.now c.in_ok-after.field-0.now c.in_ok-after.ensures c.in_err-first.ensures)

pub returns-in_err-second : goal.returns-in_err-second
returns-in_err-second c =
    rw c.from_residual-in_err-second.ensures
    (no_second c.args.text.now c.args.word.now c.in_ok-after.field-0.now c.in_ok-after.ensures c.in_ok-first.first c.in_ok-first.more.now c.in_ok-first.ensures.0 c.in_ok-first.ensures.1 c.in_err-second.ensures)

pub returns : goal.returns
returns c = (
  c.in_ok-first.ensures.0,
  c.in_ok-second.ensures.0,
  both_behind c.args.text.now c.args.word.now c.in_ok-after.field-0.now c.in_ok-after.ensures c.in_ok-first.first c.in_ok-first.more.now c.in_ok-first.ensures.0 c.in_ok-first.ensures.1 c.in_ok-second.second c.in_ok-second.rest.now c.in_ok-second.ensures.1,
)
