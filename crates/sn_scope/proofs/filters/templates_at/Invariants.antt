use Rattle.std.proofs.Common.{◌≡◌, take, drop, map, fold}
use Rattle.sn_scope.specs.Filters.{template_at, template_required}
use Rattle.sn_scope.proofs.filters.templates_at.Given as goal

abbrev pub invariant-loop-template : goal.invariant-loop-template
invariant-loop-template l =
    (l.made ≡ map (template_at l.names) (take l.template-index l.templates))
    × (fold (template_required l.names l.pattern) l.refusals (drop l.template-index l.templates) ≡ fold (template_required l.names l.pattern) l.initial.refusals l.templates)
