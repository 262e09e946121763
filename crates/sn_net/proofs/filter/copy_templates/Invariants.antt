use Rattle.std.proofs.Common.{◌≡◌, take}
use Rattle.sn_net.proofs.filter.copy_templates.Given as goal

abbrev pub invariant-loop-template : goal.invariant-loop-template
invariant-loop-template l = l.copies ≡ take l.template-index l.templates
