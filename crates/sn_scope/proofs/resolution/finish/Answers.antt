use Rattle.std.proofs.Common.{Err, sym, ap, ◌∙◌}
use mathlib.Core.Logic.{inr}
use Rattle.std.proofs.lemmas.Result.{err_from_is_err_and}
use Rattle.sn_scope.proofs.Resolving.{no_main, not_resolved, with_all, with_many}
use Rattle.sn_scope.proofs.resolution.finish.Goals as goal

pub returns-clause-ok : goal.returns-clause-ok
returns-clause-ok c =
    let labels = c.in_ok-names.ensures.ok in
    let claims = c.in_ok-claims.ensures.ok in
    with_all c.args.names.value c.into_inner.result c.args.declarations.now c.in_ok-main.main c.replace-boxes.result c.in_ok-claims.claims c.in_ok-main.ensures.ok labels.1 claims.0 claims.1 (c.into_inner.ensures ∙ labels.0) c.replace-boxes.ensures.value

pub returns-in_err-main-clause-refused : goal.returns-in_err-main-clause-refused
returns-in_err-main-clause-refused c =
    let p = err_from_is_err_and c.from_residual.result c.from_residual.ensures.1 in
    rw (p.1, p.2) (no_main c.args.names.value c.args.declarations.now c.in_err-main.field-0.0 c.in_err-main.ensures.refused)

pub returns-in_err-names-clause-refused : goal.returns-in_err-names-clause-refused
returns-in_err-names-clause-refused c =
    let p = err_from_is_err_and c.from_residual-in_err-names.result c.from_residual-in_err-names.ensures.1 in
    let many = c.in_err-names.ensures.refused in
    rw (p.1, p.2) (inr (with_many c.args.names.value c.args.declarations.now c.in_ok-main.main c.in_ok-main.ensures.ok many.1 ∙ ap Err (sym many.0)))

pub returns-in_err-claims-clause-refused : goal.returns-in_err-claims-clause-refused
returns-in_err-claims-clause-refused c =
    let p = err_from_is_err_and c.from_residual-in_err-claims.result c.from_residual-in_err-claims.ensures.1 in
    rw (p.1, p.2) (not_resolved c.args.names.value c.args.declarations.now c.in_ok-main.main c.in_err-claims.field-0.0 c.in_ok-main.ensures.ok c.in_ok-names.ensures.ok.1 c.in_err-claims.ensures.refused)
