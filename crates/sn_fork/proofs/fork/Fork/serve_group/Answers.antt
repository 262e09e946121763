use Rattle.std.proofs.Common.{◌≡◌, List, ℕ, [], ◌∷◌, ◌++◌, map, set, Some, ap, ap₂, refl, sym, subst, ◌∙◌}
use Rattle.std.specs.Prelude.{slice_get, ◌<◌}
use Rattle.sn_net.specs.Item.{modelled}
use Rattle.sn_histories.specs.Entries as entry
use Rattle.sn_stream.specs.Ends.{End, moves}
use Rattle.sn_stream.specs.declared.item.StreamItem.{StreamItem}
use Rattle.sn_stream.specs.declared.item.StreamItem.TheVariants as stream_item
use Rattle.sn_fork.specs.Turns.{GoesOn, moves_of}
use Rattle.sn_fork.proofs.Moves.{goes_got}
use Rattle.sn_component.specs.Seen.{given_by}
use Rattle.sn_fork.specs.declared.fork.Child.{Child}
use Rattle.sn_fork.specs.Facts.{Forks}
use Rattle.sn_fork.specs.Fork.{child_seen, forking_of}
use Rattle.sn_fork.specs.Seen.{AsksFor, Forking}
use Rattle.sn_fork.proofs.Groups.{asks_within, dropped, group_end, group_item, group_mark}
use Rattle.sn_fork.proofs.Steps.{child_read}
use Rattle.sn_fork.proofs.Table.{keyed_still, keys_kept}
use Rattle.sn_fork.proofs.fork.Fork.serve_group.Goals as goal

pub unreachable-requires : goal.unreachable-requires
unreachable-requires g c =
    let f : Forking = forking_of c.self.inside in
    let xs : List Child = c.self.inside.children.items in
    let n : ℕ = c.args.c in
    let x : Child = c.index_mut.result.now in
    let asks : AsksFor f n = subst (λ (f : Forking). AsksFor f c.args.c) (sym c.self.view_is) c.requires in
    let at : slice_get xs n ≡ Some x = child_read f xs n x refl (asks_within f n asks) c.index_mut.ensures.value in
    group_end f c.self.invariant.forks xs n x refl at c.get.new.self asks (c.in-Some-End.ensures.got ∙ ap (moves x.from) c.in-Some-End.field-0-is) c.get.ensures.stated

pub invariant_of-self-in-Some-Item : goal.invariant_of-self-in-Some-Item
invariant_of-self-in-Some-Item g c =
    let f : Forking = forking_of c.self.inside in
    let xs : List Child = c.self.inside.children.items in
    let n : ℕ = c.args.c in
    let x : Child = c.index_mut.result.now in
    let asks : AsksFor f n = subst (λ (f : Forking). AsksFor f c.args.c) (sym c.self.view_is) c.requires in
    let at : slice_get xs n ≡ Some x = child_read f xs n x refl (asks_within f n asks) c.index_mut.ensures.value in
    let held : List StreamItem = c.hold.new.self.held.items in
    let put : c.hold.new.self.put ≡ c.self.inside.output.put = c.hold.ensures.put ∙ c.reserve.ensures.put in
    record {
      forks = subst (λ (e : End). Forks (record f { children = map child_seen (set xs n (record x { from = c.get.new.self })); output = e; held = held })) (sym put)
          (group_item f c.self.invariant.forks xs n x refl at c.get.new.self c.in-Some-Item.item held asks (c.in-Some-Item.ensures.got ∙ ap (moves x.from) c.in-Some-Item.field-0-is) c.get.ensures.stated
          (sym (ap (λ (e : End). given_by e held) put) ∙ c.hold.ensures.given
          ∙ ap₂ (λ (e : End) (l : List StreamItem). given_by e l ++ entry.Item (modelled c.in-Some-Item.item) ∷ []) c.reserve.ensures.put c.reserve.ensures.held));
      keyed = keyed_still (map child_seen xs) (map child_seen (set xs n (record x { from = c.get.new.self }))) c.self.inside.replicas (keys_kept xs n x (record x { from = c.get.new.self }) at refl) c.self.invariant.keyed;
    }

pub invariant_of-self-in-Some-Mark : goal.invariant_of-self-in-Some-Mark
invariant_of-self-in-Some-Mark g c =
    let f : Forking = forking_of c.self.inside in
    let xs : List Child = c.self.inside.children.items in
    let n : ℕ = c.args.c in
    let x : Child = c.index_mut.result.now in
    let asks : AsksFor f n = subst (λ (f : Forking). AsksFor f c.args.c) (sym c.self.view_is) c.requires in
    let at : slice_get xs n ≡ Some x = child_read f xs n x refl (asks_within f n asks) c.index_mut.ensures.value in
    let first = dropped f n c.drop_served.new.decisions asks c.drop_served.ensures in
    record {
      forks = subst (λ (u : End × List StreamItem).
          Forks (record f { children = map child_seen (set xs n (record x { from = c.get.new.self })); decisions = c.drop_served.new.decisions; output = u.0; held = u.1 }))
          (λ i. (sym {A = End} c.reserve.ensures.put i, sym {A = List StreamItem} c.reserve.ensures.held i))
          (group_mark f c.self.invariant.forks xs n x refl at c.get.new.self c.drop_served.new.decisions first.0 asks first.1
          (c.in-Some-Mark.ensures.got ∙ ap (moves x.from) c.in-Some-Mark.field-0-is) c.get.ensures.stated);
      keyed = keyed_still (map child_seen xs) (map child_seen (set xs n (record x { from = c.get.new.self }))) c.self.inside.replicas (keys_kept xs n x (record x { from = c.get.new.self }) at refl) c.self.invariant.keyed;
    }

pub returns-in-Some-Item-clause-goes : goal.returns-in-Some-Item-clause-goes
returns-in-Some-Item-clause-goes g c =
    let f : Forking = forking_of c.self.inside in
    let xs : List Child = c.self.inside.children.items in
    let n : ℕ = c.args.c in
    let x : Child = c.index_mut.result.now in
    let asks : AsksFor f n = subst (λ (f : Forking). AsksFor f c.args.c) (sym c.self.view_is) c.requires in
    let at : slice_get xs n ≡ Some x = child_read f xs n x refl (asks_within f n asks) c.index_mut.ensures.value in
    subst (λ (u : Forking × End). GoesOn u.0 (record f { children = map child_seen (set xs n (record x { from = c.get.new.self })); output = u.1; held = c.hold.new.self.held.items }))
    (λ i. (c.self.view_is i, sym (c.hold.ensures.put ∙ c.reserve.ensures.put) i))
    (goes_got f xs n x refl at c.get.new.self (stream_item.Item c.in-Some-Item.item) f.decisions c.hold.new.self.held.items
    (c.in-Some-Item.ensures.got ∙ ap (moves x.from) c.in-Some-Item.field-0-is)).0

pub returns-in-Some-Item-clause-ok : goal.returns-in-Some-Item-clause-ok
returns-in-Some-Item-clause-ok g c =
    let f : Forking = forking_of c.self.inside in
    let xs : List Child = c.self.inside.children.items in
    let n : ℕ = c.args.c in
    let x : Child = c.index_mut.result.now in
    let asks : AsksFor f n = subst (λ (f : Forking). AsksFor f c.args.c) (sym c.self.view_is) c.requires in
    let at : slice_get xs n ≡ Some x = child_read f xs n x refl (asks_within f n asks) c.index_mut.ensures.value in
    subst (λ (u : Forking × End). moves_of u.0 < moves_of (record f { children = map child_seen (set xs n (record x { from = c.get.new.self })); output = u.1; held = c.hold.new.self.held.items }))
    (λ i. (c.self.view_is i, sym (c.hold.ensures.put ∙ c.reserve.ensures.put) i))
    (goes_got f xs n x refl at c.get.new.self (stream_item.Item c.in-Some-Item.item) f.decisions c.hold.new.self.held.items
    (c.in-Some-Item.ensures.got ∙ ap (moves x.from) c.in-Some-Item.field-0-is)).1

pub returns-in-Some-Mark-clause-goes : goal.returns-in-Some-Mark-clause-goes
returns-in-Some-Mark-clause-goes g c =
    let f : Forking = forking_of c.self.inside in
    let xs : List Child = c.self.inside.children.items in
    let n : ℕ = c.args.c in
    let x : Child = c.index_mut.result.now in
    let asks : AsksFor f n = subst (λ (f : Forking). AsksFor f c.args.c) (sym c.self.view_is) c.requires in
    let at : slice_get xs n ≡ Some x = child_read f xs n x refl (asks_within f n asks) c.index_mut.ensures.value in
    subst (λ (u : Forking × End).
    GoesOn u.0 (record f { children = map child_seen (set xs n (record x { from = c.get.new.self })); decisions = c.drop_served.new.decisions; output = u.1; held = c.reserve.new.self.held.items }))
    (λ i. (c.self.view_is i, sym c.reserve.ensures.put i))
    (goes_got f xs n x refl at c.get.new.self stream_item.Mark c.drop_served.new.decisions c.reserve.new.self.held.items
    (c.in-Some-Mark.ensures.got ∙ ap (moves x.from) c.in-Some-Mark.field-0-is)).0

pub returns-in-Some-Mark-clause-ok : goal.returns-in-Some-Mark-clause-ok
returns-in-Some-Mark-clause-ok g c =
    let f : Forking = forking_of c.self.inside in
    let xs : List Child = c.self.inside.children.items in
    let n : ℕ = c.args.c in
    let x : Child = c.index_mut.result.now in
    let asks : AsksFor f n = subst (λ (f : Forking). AsksFor f c.args.c) (sym c.self.view_is) c.requires in
    let at : slice_get xs n ≡ Some x = child_read f xs n x refl (asks_within f n asks) c.index_mut.ensures.value in
    subst (λ (u : Forking × End).
    moves_of u.0 < moves_of (record f { children = map child_seen (set xs n (record x { from = c.get.new.self })); decisions = c.drop_served.new.decisions; output = u.1; held = c.reserve.new.self.held.items }))
    (λ i. (c.self.view_is i, sym c.reserve.ensures.put i))
    (goes_got f xs n x refl at c.get.new.self stream_item.Mark c.drop_served.new.decisions c.reserve.new.self.held.items
    (c.in-Some-Mark.ensures.got ∙ ap (moves x.from) c.in-Some-Mark.field-0-is)).1
