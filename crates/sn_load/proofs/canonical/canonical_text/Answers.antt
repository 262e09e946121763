use Rattle.std.proofs.lemmas.Result.{err_from_is_err_and}
use Rattle.sn_load.proofs.Texts.{not_lexed, not_parsed}
use Rattle.sn_load.proofs.canonical.canonical_text.Goals as goal

pub returns-in_err-tokens : goal.returns-in_err-tokens
returns-in_err-tokens c =
    let p = err_from_is_err_and c.from_residual.result c.from_residual.ensures.1 in
    rw (p.1, p.2) (not_lexed c.args.bytes.now c.in_err-tokens.field-0.0 c.in_err-tokens.ensures.answer)

pub returns-in_err-program : goal.returns-in_err-program
returns-in_err-program c =
    let p = err_from_is_err_and c.from_residual-in_err-program.result c.from_residual-in_err-program.ensures.1 in
    rw (p.1, p.2) (not_parsed c.args.bytes.now c.in_ok-tokens.tokens c.in_err-program.field-0.0 c.in_ok-tokens.ensures.answer (rw c.as_slice.ensures at c.in_err-program.ensures.answer))

pub returns : goal.returns
returns c = record {
  program = c.in_ok-program.program;
  read = record { tokens = c.in_ok-tokens.tokens; lexed = c.in_ok-tokens.ensures.answer; spelled = rw c.as_slice.ensures at c.in_ok-program.ensures.answer };
  text_is = c.in_ok-text.ensures;
}
