use Rattle.std.proofs.Common.{None}
use Rattle.sn_parser.specs.Residual.{AfterName, AfterSig}
use Rattle.sn_parser.proofs.Embedded.{net_sig_start, steps_through}
use Rattle.sn_parser.proofs.Steps.{no_sig_from, no_sig_to}
use Rattle.sn_parser.proofs.net_decl.net_name.Goals as goal

pub returns-in-Some : goal.returns-in-Some
returns-in-Some c = rw c.in-Some.ensures (net_sig_start _ _ _ _ _ c.start.ensures.from c.start.ensures.to)

pub returns : goal.returns
returns c =
    steps_through (AfterName c.args.around.done c.args.around.nets c.args.name) (AfterSig c.args.around.done c.args.around.nets c.args.name None) _ _
    (λ w all. (no_sig_from c.in_default.ensures, no_sig_to)) c.after_sig.ensures
