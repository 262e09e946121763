use Rattle.std.proofs.Common.{◌≡◌, drop, fold}
use Rattle.sn_scope.specs.Numbering.{after_template}
use Rattle.sn_scope.proofs.numbering.enter_templates.Given as goal

abbrev pub invariant-loop-template : goal.invariant-loop-template
invariant-loop-template l = fold after_template l.names (drop l.template-index l.templates) ≡ fold after_template l.initial.names l.templates
