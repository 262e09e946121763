use Rattle.std.proofs.lemmas.Result.{err_from_is_err_and}
use Rattle.sn_parser.proofs.Exact.{answer_of, fault_of}
use Rattle.sn_parser.proofs.parsing.parsed.Goals as goal

pub returns-in_err-decls : goal.returns-in_err-decls
returns-in_err-decls c =
    let p = err_from_is_err_and c.from_residual.result c.from_residual.ensures.1 in
    λ xs says. fault_of _ xs _ _ _ c.in_err-decls.was (rw p.2 at p.1) (c.declarations.ensures xs says)

pub returns : goal.returns
returns c = λ xs says. answer_of _ xs _ _ _ c.in_ok-decls.was (c.declarations.ensures xs says) c.whole.ensures
