use Rattle.std.proofs.Common.{◌≡◌, ap, sym, subst, ◌∙◌}
use Rattle.std.specs.Prelude.{Some}
use Rattle.sn_model.specs.declared.run.Run.{Run}
use Rattle.sn_net.specs.declared.net.Net.TheVariants as form
use Rattle.sn_view.specs.Parts.{part_at}
use Rattle.sn_fork.specs.Seen.{Forking}
use Rattle.sn_turn.specs.Places.{LeadTo}
use Rattle.sn_turn.proofs.Onward.{replica_leads}
use Rattle.sn_turn.proofs.Parts.{leads}
use Rattle.sn_turn.proofs.unfold.replica_for.Goals as goal

pub ways-requires : goal.ways-requires
ways-requires c =
    let f : Forking = c.args.fork.now in
    let there : part_at f.run.net f.path ≡ Some (form.Split c.requires.part.0 c.requires.part.1 c.args.body.now c.requires.part.2) =
    ap (λ (r : Run). part_at r.net f.path) (sym c.requires.run) ∙ c.requires.part.3 in
    leads c.args.run.now.value c.args.body.now c.in_ok-spot.spot.path c.in_ok-spot.spot.steps
    (subst (λ (r : Run). LeadTo r c.args.body.now c.in_ok-spot.spot.path c.in_ok-spot.spot.steps) (sym c.requires.run)
    (replica_leads f c.requires.stands c.requires.part.0 c.requires.part.1 c.args.body.now c.requires.part.2 _ c.path.result.now c.in_ok-spot.spot.path c.args.steps.now c.in_ok-spot.spot.steps
    there c.path.ensures c.in_ok-spot.ensures.path c.requires.steps c.in_ok-spot.ensures.steps))

pub grow-requires-clause-part : goal.grow-requires-clause-part
grow-requires-clause-part c =
    let f : Forking = c.args.fork.now in
    let there : part_at f.run.net f.path ≡ Some (form.Split c.requires.part.0 c.requires.part.1 c.args.body.now c.requires.part.2) =
    ap (λ (r : Run). part_at r.net f.path) (sym c.requires.run) ∙ c.requires.part.3 in
    subst (λ (r : Run). LeadTo r c.args.body.now c.in_ok-spot.spot.path c.in_ok-spot.spot.steps) (sym c.requires.run)
    (replica_leads f c.requires.stands c.requires.part.0 c.requires.part.1 c.args.body.now c.requires.part.2 _ c.path.result.now c.in_ok-spot.spot.path c.args.steps.now c.in_ok-spot.spot.steps
    there c.path.ensures c.in_ok-spot.ensures.path c.requires.steps c.in_ok-spot.ensures.steps)
