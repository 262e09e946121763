use Rattle.std.specs.Prelude.{codes}
use Rattle.sn_print.proofs.Joined.{push_more}
use Rattle.sn_print.specs.Labels.{tuple_text}
use Rattle.sn_print.proofs.program.push_outputs.Goals as goal

pub loop-i-preserved : goal.loop-i-preserved
loop-i-preserved c = push_more (codes " | ") tuple_text c.args.outputs.now c.loop-i.i c.index-outputs-i.result _ _ _ _ c.loop-i-test.true c.index-outputs-i.is c.loop-i.invariant c.in_ok-push_separator.ensures c.in_ok-push_tuple.ensures
