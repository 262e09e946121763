use Rattle.std.proofs.Common.{ap, refl, ◌∙◌}
use Rattle.sn_component.specs.Seen.{Sourcing}
use Rattle.sn_turn.proofs.whole.source_node.Goals as goal

pub returns : goal.returns
returns c =
    let begun = c.in_ok-source.ensures ∙ c.new.ensures in
    (c.in_ok-source.source, refl, (ap (λ (s : Sourcing). s.next) begun, ap (λ (s : Sourcing). s.output.moved) begun ∙ c.requires.put, ap (λ (s : Sourcing). s.held) begun))
