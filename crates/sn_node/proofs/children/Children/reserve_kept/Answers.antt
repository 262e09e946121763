use Rattle.std.proofs.Common.{◌≤◌, List, map, sym, ap, ◌∙◌, subst, arith}
use Rattle.std.proofs.lemmas.List.{length-set}
use Rattle.sn_streams.specs.Keys.{Value}
use Rattle.sn_view.specs.Next.{child_of as child_number}
use Rattle.sn_node.specs.Child.{child_of}
use Rattle.sn_node.specs.Entry.{entry_of}
use Rattle.sn_node.specs.Kept.{room_of}
use Rattle.sn_node.specs.declared.children.Child.{Child}
use Rattle.sn_node.proofs.Changes.{unchanged}
use Rattle.sn_node.proofs.Rooms.{room_set, rooms_grow}
use Rattle.sn_node.proofs.children.Children.reserve_kept.Goals as goal

pub invariant_of-self : goal.invariant_of-self
invariant_of-self c =
    let self = c.args.self.now in
    let was : Child = c.index_mut.result.now in
    let same = unchanged child_of self.list.items c.args.c was (record was { kept = c.reserve.new.self }) c.index_mut.ensures.value (ap (λ es. record (child_of was) { kept = map entry_of es }) c.reserve.ensures.items) in
    record { keyed = λ v. self.keyed v ∙ ap (λ cs. child_number cs (Value v)) (sym same) }

pub returns-in_err-reserve-clause-same : goal.returns-in_err-reserve-clause-same
returns-in_err-reserve-clause-same c =
    let was : Child = c.index_mut.result.now in
    unchanged child_of c.args.self.now.list.items c.args.c was (record was { kept = c.reserve.new.self }) c.index_mut.ensures.value (ap (λ es. record (child_of was) { kept = map entry_of es }) c.reserve.ensures.items)

pub returns-in_err-reserve-clause-rooms : goal.returns-in_err-reserve-clause-rooms
returns-in_err-reserve-clause-rooms c = λ d.
    let was : Child = c.index_mut.result.now in
    let now : Child = record was { kept = c.reserve.new.self } in
    let more : room_of was ≤ room_of now = omega (arith, c.reserve.ensures.len, c.reserve.ensures.capacity) in
    rooms_grow c.args.self.now.list.items c.args.c d was now c.index_mut.ensures.value more

pub returns-in_ok-reserve-clause-same : goal.returns-in_ok-reserve-clause-same
returns-in_ok-reserve-clause-same c =
    let was : Child = c.index_mut.result.now in
    unchanged child_of c.args.self.now.list.items c.args.c was (record was { kept = c.reserve.new.self }) c.index_mut.ensures.value (ap (λ es. record (child_of was) { kept = map entry_of es }) c.reserve.ensures.items)

pub returns-in_ok-reserve-clause-ok : goal.returns-in_ok-reserve-clause-ok
returns-in_ok-reserve-clause-ok c = λ within.
    let list : List Child = c.args.self.now.list.items in
    let was : Child = c.index_mut.result.now in
    let now : Child = record was { kept = c.reserve.new.self } in
    let more : c.args.n ≤ room_of now = omega (arith, c.in_ok-reserve.ensures.ok) in
    subst (λ r. c.args.n ≤ r) (sym (room_set list c.args.c now (omega (arith, within, length-set list c.args.c now)))) more

pub returns-in_ok-reserve-clause-rooms : goal.returns-in_ok-reserve-clause-rooms
returns-in_ok-reserve-clause-rooms c = λ d.
    let was : Child = c.index_mut.result.now in
    let now : Child = record was { kept = c.reserve.new.self } in
    let more : room_of was ≤ room_of now = omega (arith, c.reserve.ensures.len, c.reserve.ensures.capacity) in
    rooms_grow c.args.self.now.list.items c.args.c d was now c.index_mut.ensures.value more
