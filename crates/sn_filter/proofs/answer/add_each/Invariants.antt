use Rattle.std.proofs.Common.{Bool, List, drop, map}
use Rattle.sn_net.specs.Item.{ModelItem, modelled}
use Rattle.sn_net.specs.Answer.{template_record}
use Rattle.sn_filter.specs.Outcome.{Adds}
use Rattle.sn_filter.proofs.answer.add_each.Given as goal

-- adding the templates that are left comes to adding all
abbrev pub invariant-loop-template : goal.invariant-loop-template
invariant-loop-template l = (after : List ModelItem) (whole : Bool)
    → Adds l.f.place (map (template_record l.taken l.f.pattern) (drop l.template-index l.templates)) (map modelled l.items) after whole
    → Adds l.f.place (map (template_record l.taken l.f.pattern) l.templates) (map modelled l.initial.items) after whole
