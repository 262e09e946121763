use Rattle.std.proofs.Common.{[], set, ap, ◌∙◌, refl, arith, rules}
use Rattle.std.specs.Prelude.{unwrap_or}
use Rattle.std.specs.Option.{option_map}
use Rattle.sn_view.specs.View as view
use Rattle.sn_node.specs.Child.{child_of}
use Rattle.sn_node.specs.declared.children.Child.{Child}
use Rattle.sn_node.proofs.Changes.{changes, seen_past, seen_get}
use Rattle.sn_node.proofs.Numbers.{keyed_changed}
use Rattle.sn_node.proofs.Rooms.{rooms_grow}
use Rattle.sn_node.proofs.children.Children.pop_kept.Goals as goal

abbrev without_first : view.Child → view.Child
without_first child = record child { kept = view.rest_of child.kept }

pub returns-then-c-len-clause-rest : goal.returns-then-c-len-clause-rest
returns-then-c-len-clause-rest c = seen_past child_of without_first c.args.self.now.list.items c.args.c (search (rules, arith))

pub invariant_of-self : goal.invariant_of-self
invariant_of-self c =
    let self = c.args.self.now in
    let was : Child = c.index_mut.result.now in
    let now : Child = record was { kept = c.pop_entry.new.queue } in
    let changed = changes child_of without_first self.list.items c.args.c was now c.index_mut.ensures.value (ap (λ es. record (child_of was) { kept = es }) c.pop_entry.ensures.rest) in
    record { keyed = keyed_changed without_first (λ k x. refl) self.list.items c.args.c (set self.list.items c.args.c now) self.values changed self.keyed }

pub returns-clause-first : goal.returns-clause-first
returns-clause-first c =
    ap (λ o. view.first_of (unwrap_or (option_map (λ child. child.kept) o) []))
    (seen_get child_of c.args.self.now.list.items c.args.c c.index_mut.result.now (search (rules, arith)) c.index_mut.ensures.value)
    ∙ c.pop_entry.ensures.first

pub returns-clause-rest : goal.returns-clause-rest
returns-clause-rest c =
    let was : Child = c.index_mut.result.now in
    changes child_of without_first c.args.self.now.list.items c.args.c was (record was { kept = c.pop_entry.new.queue }) c.index_mut.ensures.value
    (ap (λ es. record (child_of was) { kept = es }) c.pop_entry.ensures.rest)

pub returns-clause-rooms : goal.returns-clause-rooms
returns-clause-rooms c = λ d.
    let was : Child = c.index_mut.result.now in
    rooms_grow c.args.self.now.list.items c.args.c d was (record was { kept = c.pop_entry.new.queue }) c.index_mut.ensures.value c.pop_entry.ensures.room
