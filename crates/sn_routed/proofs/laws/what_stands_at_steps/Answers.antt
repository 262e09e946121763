use Rattle.std.proofs.Common.{[], ◌∷◌}
use Rattle.sn_model.specs.Run.{input_of, setting_of}
use Rattle.sn_net_histories.specs.Histories.{Whole}
use Rattle.sn_routed.proofs.Spots.{leads_spot, spot_further, spot_reached}
use Rattle.sn_routed.proofs.laws.what_stands_at_steps.Goals as goal

pub returns-clause-leads : goal.returns-clause-leads
returns-clause-leads c = leads_spot

pub returns-clause-reached : goal.returns-clause-reached
returns-clause-reached c = λ run steps spot is. spot_reached (setting_of run) steps (Whole run.net) spot (input_of run ∷ []) is

pub returns-clause-further : goal.returns-clause-further
returns-clause-further c = λ depth spot steps more. spot_further depth steps more spot
