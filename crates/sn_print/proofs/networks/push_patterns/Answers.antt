use Rattle.std.specs.Prelude.{codes}
use Rattle.sn_print.proofs.Joined.{push_more}
use Rattle.sn_print.specs.Labels.{variant_text}
use Rattle.sn_print.proofs.networks.push_patterns.Goals as goal

pub loop-i-preserved : goal.loop-i-preserved
loop-i-preserved c = push_more (codes ",") variant_text c.args.patterns.now c.loop-i.i c.index-patterns-i.result _ _ _ _ c.loop-i-test.true c.index-patterns-i.is c.loop-i.invariant c.in_ok-push_separator.ensures c.in_ok-push_variant.ensures
