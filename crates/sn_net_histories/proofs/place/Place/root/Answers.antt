use Rattle.std.proofs.Common.{◌∙◌, ap, ap₂, map}
use Rattle.sn_net_histories.specs.Histories.{leads_somewhere}
use Rattle.sn_net_histories.specs.Places.{history_at, tree_step}
use Rattle.sn_net_histories.proofs.Roots.{root_comes, root_leads, root_leaves}
use Rattle.sn_net_histories.proofs.place.Place.root.Goals as goal

pub returns-clause-leads : goal.returns-clause-leads
returns-clause-leads c = λ depth net. ap (λ steps. leads_somewhere depth net (map tree_step steps)) c.new.ensures ∙ root_leads depth net

pub returns-clause-comes : goal.returns-clause-comes
returns-clause-comes c = λ is run. ap₂ (λ steps port. history_at run (record { steps = steps; port = port })) c.new.ensures is ∙ root_comes run

pub returns-clause-leaves : goal.returns-clause-leaves
returns-clause-leaves c = λ is run. ap₂ (λ steps port. history_at run (record { steps = steps; port = port })) c.new.ensures is ∙ root_leaves run
