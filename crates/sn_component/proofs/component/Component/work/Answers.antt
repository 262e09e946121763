use Rattle.std.proofs.Common.{rules, ◌≡◌, List, ℕ, [], Some, ◌∙◌, ap, sym, subst}
use Rattle.std.specs.Prelude.{Option}
use Rattle.sn_model.specs.Run.{net_of}
use Rattle.sn_view.specs.Parts.{part_at}
use Rattle.sn_stream.specs.Ends.{End}
use Rattle.sn_stream.specs.declared.item.StreamItem.{StreamItem}
use Rattle.sn_component.specs.Facts.{WorksOff}
use Rattle.sn_component.specs.Component.{state_of}
use Rattle.sn_component.specs.Seen.{Working, given_by}
use Rattle.sn_component.specs.Kept.{entries_of, working_of}
use Rattle.sn_component.proofs.Working.{after_sending, after_working, part_of_run, routed_next}
use Rattle.sn_component.proofs.component.Component.work.Goals as goal

pub pass-requires-clause-fits : goal.pass-requires-clause-fits
pass-requires-clause-fits g c κs within = part_of_run c.args.run.now c.args.self.now.path c.args.part.now c.requires.part

pub pass-requires-clause-routed : goal.pass-requires-clause-routed
pass-requires-clause-routed g c κs within =
    let waits : c.self.inside.waiting ≡ Some c.in-Some.x = search rules in
    let there = subst (λ (p : List ℕ). part_at (net_of c.args.run.now) p ≡ Some c.args.part.now) (sym (ap (λ (v : Working). v.path) c.self.view_is)) c.requires.part in
    routed_next (working_of c.self.inside) c.args.run.now c.args.part.now c.in-Some.x (ap (λ (v : Working). v.run) c.self.view_is ∙ c.requires.run) there (ap entries_of waits) c.self.invariant

pub invariant_of-self-in-Ok : goal.invariant_of-self-in-Ok
invariant_of-self-in-Ok g c =
    let w : Working = working_of c.self.inside in
    let out = c.pass.new.out in
    let waits : c.self.inside.waiting ≡ Some c.in-Some.x = search rules in
    let there = subst (λ (p : List ℕ). part_at (net_of c.args.run.now) p ≡ Some c.args.part.now) (sym (ap (λ (v : Working). v.path) c.self.view_is)) c.requires.part in
    subst (λ (o : Option StreamItem). WorksOff (record w { state = state_of c.pass.new.keeps; waiting = entries_of o; output = out.put; held = out.held.items })) (sym c.take.ensures.after)
    (after_sending (record w { state = state_of c.pass.new.keeps; waiting = []; held = out.held.items }) out.put out.held.items
    (ap (λ (o : End). given_by o out.held.items) c.pass.ensures.put) (ap (λ (o : End). o.made) c.pass.ensures.put)
    (after_working w c.args.run.now c.args.part.now c.in-Some.x (state_of c.pass.new.keeps) out.held.items (ap (λ (v : Working). v.run) c.self.view_is ∙ c.requires.run) there
    (ap entries_of waits) (sym (ap (λ (o : End). given_by o out.held.items) c.pass.ensures.put) ∙ c.in-Ok.ensures.given) c.in-Ok.ensures.state c.self.invariant))
