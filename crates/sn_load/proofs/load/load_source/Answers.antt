use Rattle.std.proofs.lemmas.Result.{err_from_is_err_and}
use Rattle.sn_scope.specs.Resolution.{parts_of}
use Rattle.sn_load.specs.Source.{IsSource}
use Rattle.sn_load.proofs.Loading.{loaded, not_accepted, not_lexed, not_parsed, not_resolved}
use Rattle.sn_load.proofs.load.load_source.Goals as goal

pub returns-in_err-tokens-clause-ended : goal.returns-in_err-tokens-clause-ended
returns-in_err-tokens-clause-ended c =
    let p = err_from_is_err_and c.from_residual.result c.from_residual.ensures.1 in
    rw (p.1, p.2) (not_lexed c.args.bytes.now c.in_err-tokens.field-0.0 c.in_err-tokens.ensures.answer)

pub returns-in_err-tree-clause-ended : goal.returns-in_err-tree-clause-ended
returns-in_err-tree-clause-ended c =
    let p = err_from_is_err_and c.from_residual-in_err-tree.result c.from_residual-in_err-tree.ensures.1 in
    rw (p.1, p.2) (not_parsed c.args.bytes.now c.in_ok-tokens.tokens c.in_ok-tokens.ensures.answer c.in_err-tree.field-0.0 (rw c.as_slice.ensures at c.in_err-tree.ensures.answer))

pub returns-in_err-resolved-clause-ended : goal.returns-in_err-resolved-clause-ended
returns-in_err-resolved-clause-ended c =
    let p = err_from_is_err_and c.from_residual-in_err-resolved.result c.from_residual-in_err-resolved.ensures.1 in
    let read : IsSource c.args.bytes.now c.in_ok-tree.tree = record { tokens = c.in_ok-tokens.tokens; lexed = c.in_ok-tokens.ensures.answer; spelled = rw c.as_slice.ensures at c.in_ok-tree.ensures.answer } in
    rw (p.1, p.2) (not_resolved c.args.bytes.now c.in_ok-tree.tree read c.in_err-resolved.field-0.0 c.in_err-resolved.ensures.refused)

pub returns-in_err-check_claims-clause-ended : goal.returns-in_err-check_claims-clause-ended
returns-in_err-check_claims-clause-ended c =
    let p = err_from_is_err_and c.from_residual-in_err-check_claims.result c.from_residual-in_err-check_claims.ensures.1 in
    let read : IsSource c.args.bytes.now c.in_ok-tree.tree = record { tokens = c.in_ok-tokens.tokens; lexed = c.in_ok-tokens.ensures.answer; spelled = rw c.as_slice.ensures at c.in_ok-tree.ensures.answer } in
    rw (p.1, p.2) (not_accepted c.args.bytes.now c.in_ok-tree.tree read (parts_of c.in_ok-resolved.resolved) c.in_ok-resolved.ensures.ok c.in_err-check_claims.field-0.0 (rw c.as_parts.ensures.parts at c.in_err-check_claims.ensures.refused))

pub returns-clause-loaded : goal.returns-clause-loaded
returns-clause-loaded c =
    let read : IsSource c.args.bytes.now c.in_ok-tree.tree = record { tokens = c.in_ok-tokens.tokens; lexed = c.in_ok-tokens.ensures.answer; spelled = rw c.as_slice.ensures at c.in_ok-tree.ensures.answer } in
    loaded c.args.bytes.now c.in_ok-tree.tree read (parts_of c.in_ok-resolved.resolved) c.in_ok-resolved.ensures.ok c.main_of.result c.main_of.ensures.main c.main_of.ensures.accepted c.main_of.ensures.formed
