use Rattle.std.proofs.lemmas.Result.{IfErr-weaker}
use Rattle.sn_plain.specs.Pieces.{WhyEndStopped}
use Rattle.sn_plain.proofs.feeding.print_end.Goals as goal

pub returns-in-Ok-clause-stopped : goal.returns-in-Ok-clause-stopped
returns-in-Ok-clause-stopped g c =
    IfErr-weaker c.print_items.result _ _ (λ why cut. WhyEndStopped.cut_off c.in-Ok.names c.in-Ok.items c.in-Ok.ensures.ended c.in-Ok.ensures.known cut) c.print_items.ensures.stopped

pub returns-in-Err-clause-stopped : goal.returns-in-Err-clause-stopped
returns-in-Err-clause-stopped g c = WhyEndStopped.at_line c.in-Err.stop c.in-Err.ensures.stopped c.in-Err.ensures.told c.print_before.ensures.told
