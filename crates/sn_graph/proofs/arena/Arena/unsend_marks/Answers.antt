use Rattle.std.proofs.Common.{◌≡◌, ◌+◌, ◌-◌, ◌<◌, get_or, length, take, arith, rules, refl, ap, ◌∙◌}
use Rattle.std.proofs.lemmas.List.{get_or_default}
use Rattle.sn_graph.specs.Broadcast.{marked_all}
use Rattle.sn_graph.proofs.Marking.{unsent_more}
use Rattle.sn_graph.proofs.arena.Arena.unsend_marks.Goals as goal

pub loop-k-init : goal.loop-k-init
loop-k-init c = record { few = omega arith; view = λ g is. is; of = λ run is. is; quiet = record { places = refl; agenda = refl } }

pub offset_bounds-entries-k : goal.offset_bounds-entries-k
offset_bounds-entries-k c =
    let few = c.loop-k.invariant.few in
    let some = c.loop-k-test.true in
    let all = c.requires in
    let bound : c.loop-k.k - 1 < length c.args.entries.now = omega (arith, few, some, all) in
    search (rules, arith, bound)

pub bounds-entries-k : goal.bounds-entries-k
bounds-entries-k c =
    let few = c.loop-k.invariant.few in
    let some = c.loop-k-test.true in
    let all = c.requires in
    omega (arith, few, some, all)

pub loop-k-preserved : goal.loop-k-preserved
loop-k-preserved c =
    let k = c.loop-k.k in
    let entries = c.args.entries.now in
    let few = c.loop-k.invariant.few in
    let some = c.loop-k-test.true in
    let all = c.requires in
    let bound : k - 1 < length entries = omega (arith, few, some, all) in
    let less : k ≡ k - 1 + 1 = omega (arith, some) in
    unsent_more entries c.args.n (k - 1) k (get_or entries (k - 1) 0) c.args.self.now c.loop-k.self c.unsend.new.self less (omega (arith, few, all))
    (get_or_default entries (k - 1) 0 (get_or entries (k - 1) 0) bound) c.loop-k.invariant c.unsend.ensures.view c.unsend.ensures.of c.unsend.ensures.quiet

pub returns-clause-view : goal.returns-clause-view
returns-clause-view c =
    let none : c.loop-k.k ≡ 0 = search (rules, arith) in
    λ g was. c.loop-k.invariant.view g was ∙ ap (λ k. marked_all (take k c.args.entries.now) g) none

pub returns-clause-of : goal.returns-clause-of
returns-clause-of c = λ run is. c.loop-k.invariant.of run is

pub returns-clause-quiet : goal.returns-clause-quiet
returns-clause-quiet c = c.loop-k.invariant.quiet
