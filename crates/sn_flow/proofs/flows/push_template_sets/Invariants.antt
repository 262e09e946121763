use Rattle.std.proofs.Common.{◌≡◌, ◌++◌, take, map}
use Rattle.sn_typing.specs.Outline.{template_variant}
use Rattle.sn_flow.proofs.flows.push_template_sets.Given as goal

abbrev pub invariant-loop-template : goal.invariant-loop-template
invariant-loop-template l = l.sets ≡ l.initial.sets ++ map template_variant (take l.template-index l.templates)
