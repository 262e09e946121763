use Rattle.std.proofs.Common.{◌≡◌, List, map, ap, ◌∙◌, subst}
use Rattle.sn_record.specs.declared.item.Item.{Item}
use Rattle.sn_net.specs.Item.{ModelItem, modelled}
use Rattle.sn_model.specs.Run.{MayGive, given}
use Rattle.sn_model.specs.declared.run.Run.{Run}
use Rattle.sn_output.specs.Printed.{ending}
use Rattle.sn_sample.specs.Tally.{counted}
use Rattle.sn_view.specs.Coming.{MayCome}
use Rattle.sn_view.specs.View.{View}
use Rattle.sn_graph.specs.Graph.{seen}
use Rattle.sn_top.proofs.Counting.{begins_it, part_counted, part_ends, whole_counted, whole_ends, whole_is}
use Rattle.sn_top.proofs.sample.count_together.Goals as goal

pub returns-in-Whole-clause-counters : goal.returns-in-Whole-clause-counters
returns-in-Whole-clause-counters g c =
    let graph : View = seen c.farm_drive.new.graph in
    let allowed : (ys : List ModelItem) → MayCome graph ys → ∥ MayGive c.args.run ys ∥₁ = λ ys may.
    subst (λ (run : Run). ∥ MayGive run ys ∥₁) (c.deref.ensures ∙ c.in_ok-shared.ensures) ((c.in_ok-graph.ensures.can ys).0 (c.farm_drive.ensures.can ys may)) in
    let came : map modelled c.as_slice.result.now ≡ graph.out = ap (λ (xs : List Item). map modelled xs) c.as_slice.ensures ∙ c.out.ensures.items in
    let is = whole_is c.args.run graph c.requires allowed c.farm_drive.ensures.some (c.farm_drive.ensures.whole c.in-Whole.is).over.only in
    c.in_ok-count_items-in-Whole.ensures.counters ∙ ap (λ (ys : List ModelItem). counted c.args.names.now ys) came ∙ whole_counted c.args.names.now graph.out (given c.args.run) is

pub returns-in-Whole-clause-fault : goal.returns-in-Whole-clause-fault
returns-in-Whole-clause-fault g c =
    let graph : View = seen c.farm_drive.new.graph in
    let allowed : (ys : List ModelItem) → MayCome graph ys → ∥ MayGive c.args.run ys ∥₁ = λ ys may.
    subst (λ (run : Run). ∥ MayGive run ys ∥₁) (c.deref.ensures ∙ c.in_ok-shared.ensures) ((c.in_ok-graph.ensures.can ys).0 (c.farm_drive.ensures.can ys may)) in
    let came : map modelled c.as_slice.result.now ≡ graph.out = ap (λ (xs : List Item). map modelled xs) c.as_slice.ensures ∙ c.out.ensures.items in
    let is = whole_is c.args.run graph c.requires allowed c.farm_drive.ensures.some (c.farm_drive.ensures.whole c.in-Whole.is).over.only in
    c.in_ok-count_items-in-Whole.ensures.fault ∙ ap (λ (ys : List ModelItem). ending ys) came ∙ whole_ends c.args.names.now graph.out (given c.args.run) is

pub returns-in-Faulted-clause-counters : goal.returns-in-Faulted-clause-counters
returns-in-Faulted-clause-counters g c =
    let graph : View = seen c.farm_drive.new.graph in
    let allowed : (ys : List ModelItem) → MayCome graph ys → ∥ MayGive c.args.run ys ∥₁ = λ ys may.
    subst (λ (run : Run). ∥ MayGive run ys ∥₁) (c.deref.ensures ∙ c.in_ok-shared.ensures) ((c.in_ok-graph.ensures.can ys).0 (c.farm_drive.ensures.can ys may)) in
    let came : map modelled c.as_slice-in-Faulted.result.now ≡ graph.out = ap (λ (xs : List Item). map modelled xs) c.as_slice-in-Faulted.ensures ∙ c.out-in-Faulted.ensures.items in
    let first = (c.farm_drive.ensures.faulted c.in-Faulted.field-0 c.in-Faulted.is).first in
    let begins = begins_it c.args.run graph c.requires allowed c.farm_drive.ensures.some c.out-in-Faulted.ensures.begins in
    c.in_ok-count_items-in-Faulted.ensures.counters ∙ ap (λ (ys : List ModelItem). counted c.args.names.now ys) came
    ∙ part_counted c.args.names.now graph.out (given c.args.run) c.in-Faulted.field-0 first begins

pub returns-in-Faulted-clause-fault : goal.returns-in-Faulted-clause-fault
returns-in-Faulted-clause-fault g c =
    let graph : View = seen c.farm_drive.new.graph in
    let allowed : (ys : List ModelItem) → MayCome graph ys → ∥ MayGive c.args.run ys ∥₁ = λ ys may.
    subst (λ (run : Run). ∥ MayGive run ys ∥₁) (c.deref.ensures ∙ c.in_ok-shared.ensures) ((c.in_ok-graph.ensures.can ys).0 (c.farm_drive.ensures.can ys may)) in
    let came : map modelled c.as_slice-in-Faulted.result.now ≡ graph.out = ap (λ (xs : List Item). map modelled xs) c.as_slice-in-Faulted.ensures ∙ c.out-in-Faulted.ensures.items in
    let first = (c.farm_drive.ensures.faulted c.in-Faulted.field-0 c.in-Faulted.is).first in
    let begins = begins_it c.args.run graph c.requires allowed c.farm_drive.ensures.some c.out-in-Faulted.ensures.begins in
    c.in_ok-count_items-in-Faulted.ensures.fault ∙ ap (λ (ys : List ModelItem). ending ys) came ∙ part_ends c.args.names.now graph.out (given c.args.run) c.in-Faulted.field-0 first begins
