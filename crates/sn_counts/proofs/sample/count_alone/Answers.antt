use Rattle.std.proofs.Common.{◌≡◌, List, map, ap, ◌∙◌}
use Rattle.sn_record.specs.declared.item.Item.{Item}
use Rattle.sn_net.specs.Item.{ModelItem, modelled}
use Rattle.sn_model.specs.Run.{given}
use Rattle.sn_output.specs.Printed.{ending}
use Rattle.sn_sample.specs.Tally.{counted}
use Rattle.sn_counts.proofs.sample.count_alone.Goals as goal

pub returns-clause-counters : goal.returns-clause-counters
returns-clause-counters c =
    let came : map modelled c.as_slice.result.now ≡ given c.args.run.now = ap (λ (xs : List Item). map modelled xs) c.as_slice.ensures ∙ c.in_ok-given.ensures in
    c.in_ok-count_items.ensures.counters ∙ ap (λ (ys : List ModelItem). counted c.args.names.now ys) came

pub returns-clause-fault : goal.returns-clause-fault
returns-clause-fault c =
    let came : map modelled c.as_slice.result.now ≡ given c.args.run.now = ap (λ (xs : List Item). map modelled xs) c.as_slice.ensures ∙ c.in_ok-given.ensures in
    c.in_ok-count_items.ensures.fault ∙ ap (λ (ys : List ModelItem). ending ys) came
