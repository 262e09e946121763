use Rattle.std.specs.Prelude.{codes}
use Rattle.sn_print.proofs.Joined.{push_more}
use Rattle.sn_print.specs.Networks.{template_text}
use Rattle.sn_print.proofs.networks.push_templates.Goals as goal

pub loop-i-preserved : goal.loop-i-preserved
loop-i-preserved c = push_more (codes ";") template_text c.args.templates.now c.loop-i.i c.index-templates-i.result _ _ _ _ c.loop-i-test.true c.index-templates-i.is c.loop-i.invariant c.in_ok-push_separator.ensures c.in_ok-push_template.ensures
