use Rattle.std.proofs.Common.{List, ap, ap₂, ◌∙◌}
use Rattle.sn_model.specs.declared.step.Step.{Step}
use Rattle.sn_net_histories.specs.Places.{history_at}
use Rattle.sn_net_histories.specs.declared.place.Place.{Place}
use Rattle.sn_turn.proofs.Parts.{both_ok}
use Rattle.sn_turn.proofs.streams.stream.Goals as goal

pub returns-clause-passes : goal.returns-clause-passes
returns-clause-passes c =
    both_ok c.make.result (λ ends run place. ap₂ history_at run (place ∙ ap (λ (ss : List Step). let p : Place = record { steps = ss; port = c.args.port } in p) c.in_ok-share.ensures))
    c.make.ensures.run c.make.ensures.place
