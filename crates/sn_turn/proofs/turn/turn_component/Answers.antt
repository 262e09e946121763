use Rattle.std.proofs.Common.{rules, ◌≡◌, [], ap, refl, subst, ◌∙◌}
use Rattle.sn_component.specs.Moved.{WentWorking, is_done}
use Rattle.sn_component.specs.Outbox.{has_ended}
use Rattle.sn_component.specs.Seen.{Working}
use Rattle.sn_turn.specs.declared.node.Kind.TheVariants as some_kind
use Rattle.sn_turn.proofs.Turning.{component_moves, went_to}
use Rattle.sn_turn.proofs.turn.turn_component.Goals as goal

pub returns-in-Ok-clause-went : goal.returns-in-Ok-clause-went
returns-in-Ok-clause-went g c =
    let lent = c.get_mut.ensures.value in
    let went = subst (λ (w : Working). WentWorking w c.turn.new.self c.in-Ok.moved) lent c.in-Ok.ensures.went in
    let ended : has_ended c.turn.new.self.output ≡ is_done c.in-Ok.moved = search rules in
    went_to (some_kind.Component c.args.component) (some_kind.Component c.turn.new.self) c.answer.result c.in-Ok.moved [] c.answer.ensures.moved
    (ap (λ v. v.items) c.answer.ensures.spawned ∙ c.new.ensures.items) c.answer.ensures.node (
      c.turn.ensures.run ∙ ap (λ (w : Working). w.run) lent,
      c.turn.ensures.path ∙ ap (λ (w : Working). w.path) lent,
      c.turn.ensures.input ∙ ap (λ (w : Working). w.input.made) lent,
      c.turn.ensures.output ∙ ap (λ (w : Working). w.output.made) lent,
    )
    (component_moves c.args.component c.turn.new.self c.in-Ok.moved went) ended refl
