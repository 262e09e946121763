use Rattle.std.proofs.Common.{arith, ◌≡◌, ap, ◌∙◌}
use Rattle.sn_model.specs.Run.{boxes_of, depth_of, fuel_of, items_of, net_of}
use Rattle.sn_counts.proofs.Sampling.{has_counted, not_finished, samples_typed}
use Rattle.sn_top.proofs.sample.count_sample.Goals as goal

pub new-run-requires-clause-fuel : goal.new-run-requires-clause-fuel
new-run-requires-clause-fuel g c = record { some = omega arith; few = omega arith }

pub new-run-requires-clause-depth : goal.new-run-requires-clause-depth
new-run-requires-clause-depth g c = record { some = omega arith; few = omega arith }

pub new-run-requires-clause-queue : goal.new-run-requires-clause-queue
new-run-requires-clause-queue g c = record { some = omega arith; few = omega arith }

pub new-run-requires-clause-typed : goal.new-run-requires-clause-typed
new-run-requires-clause-typed g c = rw c.into_inner-boxes.ensures (samples_typed c.args.program c.args.number c.args.count c.in_ok-names.field-0 c.in_ok-names.ensures.made c.requires.accepted)

pub returns-then-all_det-clause-counted : goal.returns-then-all_det-clause-counted
returns-then-all_det-clause-counted g c =
    let run : c.into_inner.result ≡ c.new-run.result = c.into_inner.ensures in
    let made = c.into_inner-boxes.ensures in
    has_counted c.args.program c.args.number c.args.count c.in_ok-names.field-0 c.in_ok-names.ensures.made c.into_inner.result (ap net_of run ∙ c.new-run.ensures.net ∙ ap (λ (x : _). x.1.net) made)
    (ap boxes_of run ∙ c.new-run.ensures.boxes ∙ ap (λ (x : _). x.0) made) (ap fuel_of run ∙ c.new-run.ensures.fuel) (ap depth_of run ∙ c.new-run.ensures.depth)
    (ap items_of run ∙ c.new-run.ensures.items) c.count_together.result c.count_together.ensures.counters c.count_together.ensures.fault

pub returns-clause-counted : goal.returns-clause-counted
returns-clause-counted g c =
    let made = c.into_inner-boxes.ensures in
    has_counted c.args.program c.args.number c.args.count c.in_ok-names.field-0 c.in_ok-names.ensures.made c.new-run.result (c.new-run.ensures.net ∙ ap (λ (x : _). x.1.net) made)
    (c.new-run.ensures.boxes ∙ ap (λ (x : _). x.0) made) c.new-run.ensures.fuel c.new-run.ensures.depth
    c.new-run.ensures.items c.count_alone.result c.count_alone.ensures.counters c.count_alone.ensures.fault

pub returns-clause-ended : goal.returns-clause-ended
returns-clause-ended g c = not_finished c.args.program.names c.args.program.claim c.args.number c.args.count c.count_alone.result c.count_alone.ensures.memory
