use Rattle.std.proofs.Common.{rules, ◌≡◌, ◌<◌, ◌≤◌, ◌∙◌, ◌++◌, ◌∷◌, [], ap, length, refl}
use Rattle.std.proofs.lemmas.List.{nil_from_length}
use Rattle.sn_model.specs.Run.{items_of}
use Rattle.sn_stream.specs.Ended.{numbered}
use Rattle.sn_component.specs.Source.{sourcing_of}
use Rattle.sn_component.proofs.Sources.{after_filling, all_is_put}
use Rattle.sn_component.proofs.source.Source.fill.Goals as goal

pub returns-then-self-len-clause-none : goal.returns-then-self-len-clause-none
returns-then-self-len-clause-none c =
    let zero : length c.self.inside.output.held.items ≡ 0 = search rules in
    let none : c.self.inside.output.held.items ≡ [] = nil_from_length c.self.inside.output.held.items zero in
    let past : length (items_of c.self.inside.run.value) < c.self.inside.next = search rules in
    λ no. rw (← c.self.view_is) (all_is_put (sourcing_of c.self.inside) none past c.self.invariant)

pub invariant_of-self-2 : goal.invariant_of-self-2
invariant_of-self-2 c =
    let within : c.self.inside.next ≤ length (items_of c.self.inside.run.value) = search rules in
    let is : c.in_ok-x.x ≡ numbered (items_of c.self.inside.run.value) c.self.inside.next = search rules in
    after_filling (sourcing_of c.self.inside) c.in_ok-x.x _ c.hold.new.self.put c.hold.new.self.held.items
    (c.hold.ensures.put ∙ c.reserve.ensures.put) within is refl
    (c.hold.ensures.held ∙ ap (λ l. l ++ c.in_ok-x.x ∷ []) c.reserve.ensures.held) c.self.invariant
