use Rattle.std.proofs.Common.{◌≡◌, ◌++◌, map, take}
use Rattle.std.specs.Prelude.{codes}
use Rattle.sn_print.specs.Networks.{template_text}
use Rattle.sn_print.specs.Words.{joined}
use Rattle.sn_print.proofs.networks.push_templates.Given as goal

abbrev pub invariant-loop-i : goal.invariant-loop-i
invariant-loop-i l = l.text ≡ l.initial.text ++ joined (codes ";") (map template_text (take l.i l.templates))
