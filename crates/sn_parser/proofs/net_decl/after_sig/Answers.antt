use Rattle.sn_parser.specs.Residual.{AfterSig, Connecting}
use Rattle.sn_parser.proofs.Embedded.{steps_through}
use Rattle.sn_parser.proofs.Steps.{inner_from, inner_to, leads, no_inner_from, no_inner_to}
use Rattle.sn_parser.specs.Scopes.{with_inner_scope}
use Rattle.sn_parser.proofs.net_decl.after_sig.Goals as goal

pub returns-in-Some : goal.returns-in-Some
returns-in-Some c =
    let a = c.args in
    leads (AfterSig a.around.done a.around.nets a.name a.sig) a.token (with_inner_scope a.around (record { name = a.name; sig = a.sig; decls = c.no_row.result })) c.inner.result c.inner.ensures
    (λ w all. rw (c.in-Some.ensures, c.no_row.ensures) (inner_from, inner_to))

pub returns : goal.returns
returns c =
    steps_through (AfterSig c.args.around.done c.args.around.nets c.args.name c.args.sig) (Connecting c.args.around.done c.args.around.nets c.args.name c.args.sig c.no_row.result) _ _
    (λ w all. rw c.no_row.ensures (no_inner_from c.in_default.ensures, no_inner_to)) c.connect.ensures
