use Rattle.std.proofs.Common.{◌+◌, [], ◌∷◌, List, set, sym, ap, ◌∙◌, refl, arith, rules}
use Rattle.std.proofs.lemmas.Bool.{eqb-false}
use Rattle.sn_view.specs.View.{keeps_more}
use Rattle.sn_node.specs.Child.{child_of}
use Rattle.sn_node.specs.Entry.{entry_of}
use Rattle.sn_node.specs.declared.children.Child.{Child}
use Rattle.sn_node.proofs.Changes.{changes, seen_past}
use Rattle.sn_node.proofs.Numbers.{keyed_changed}
use Rattle.sn_node.proofs.Rooms.{room_read, room_set, room_other}
use Rattle.sn_node.proofs.children.Children.keep.Goals as goal

pub invariant_of-self : goal.invariant_of-self
invariant_of-self c =
    let self = c.args.self.now in
    let was : Child = c.index_mut.result.now in
    let now : Child = record was { kept = c.push_entry.new.queue } in
    let more = keeps_more (entry_of c.args.entry ∷ []) in
    let changed = changes child_of more self.list.items c.args.c was now c.index_mut.ensures.value (ap (λ es. record (child_of was) { kept = es }) c.push_entry.ensures.items) in
    record { keyed = keyed_changed more (λ k x. refl) self.list.items c.args.c (set self.list.items c.args.c now) self.values changed self.keyed }

pub returns-then-c-len-clause-kept : goal.returns-then-c-len-clause-kept
returns-then-c-len-clause-kept c =
    let was : Child = c.index_mut.result.now in
    changes child_of (keeps_more (entry_of c.args.entry ∷ [])) c.args.self.now.list.items c.args.c was (record was { kept = c.push_entry.new.queue }) c.index_mut.ensures.value
    (ap (λ es. record (child_of was) { kept = es }) c.push_entry.ensures.items)

pub returns-then-c-len-clause-room : goal.returns-then-c-len-clause-room
returns-then-c-len-clause-room c = λ within.
    let list : List Child = c.args.self.now.list.items in
    let was : Child = c.index_mut.result.now in
    let now : Child = record was { kept = c.push_entry.new.queue } in
    ap (λ r. r + 1) (room_set list c.args.c now within) ∙ c.push_entry.ensures.room ∙ sym (room_read list c.args.c was within c.index_mut.ensures.value)

pub returns-then-c-len-clause-others : goal.returns-then-c-len-clause-others
returns-then-c-len-clause-others c = λ d other. room_other c.args.self.now.list.items c.args.c d _ (eqb-false d c.args.c other)

pub returns-else-c-len-clause-kept : goal.returns-else-c-len-clause-kept
returns-else-c-len-clause-kept c =
    seen_past child_of (keeps_more (entry_of c.args.entry ∷ [])) c.args.self.now.list.items c.args.c (search (rules, arith))
