use Rattle.std.proofs.Common.{◌≡◌, ℕ, List, map, set, Some, ap, refl, sym, subst, ◌∙◌}
use Rattle.std.specs.Prelude.{Option, slice_get}
use Rattle.sn_dispatch.specs.declared.det_fork.Decision.{Decision}
use Rattle.sn_stream.specs.declared.item.StreamItem.{StreamItem}
use Rattle.sn_component.specs.Kept.{entries_of}
use Rattle.sn_fork.specs.declared.fork.Child.{Child}
use Rattle.sn_fork.specs.Facts.{Forks, Wants}
use Rattle.sn_fork.specs.Fork.{child_seen, forking_of}
use Rattle.sn_fork.specs.Seen.{ChildSeen, Forking}
use Rattle.sn_fork.specs.Turns.{without_held}
use Rattle.sn_net.specs.Dispatchers.{stream_key}
use Rattle.sn_fork.proofs.OneChild.{held_alone, unchanged_child}
use Rattle.sn_fork.proofs.Items.{after_noting, item_child}
use Rattle.sn_fork.proofs.Table.{keyed_still, keys_kept}
use Rattle.sn_fork.proofs.fork.Fork.take_item.Goals as goal

pub invariant_of-self : goal.invariant_of-self
invariant_of-self c =
    let f : Forking = forking_of c.self.inside in
    let xs : List Child = c.self.inside.children.items in
    let n : ℕ = c.args.c in
    let x : Child = c.index_mut.result.now in
    let at : slice_get xs n ≡ Some x = item_child f c.args.self.now xs n x c.args.key c.self.view_is refl c.requires.child c.index_mut.ensures.value in
    record {
      forks = subst (λ (o : Option StreamItem).
          Forks (record f { waiting = entries_of o; decisions = c.note_for.new.decisions; children = map child_seen (set xs n (record x { to = c.note_for.new.to })) }))
          (sym c.take.ensures.after)
          (after_noting f c.self.invariant.forks xs n x c.note_for.new.to c.args.key c.in-Some.x c.note_for.new.decisions refl at
          (subst (λ (f : Forking). (child : ChildSeen) × (slice_get f.children n ≡ Some child) × (child.key ≡ stream_key c.args.key)) (sym c.self.view_is) c.requires.child)
          (subst (λ (f : Forking). Wants f c.args.key) (sym c.self.view_is) c.requires.wants) (ap entries_of (sym c.in-Some.ensures.value))
          c.in-Ok.ensures.noted c.note_for.ensures.put c.in-Ok.ensures.given);
      keyed = keyed_still (map child_seen xs) (map child_seen (set xs n (record x { to = c.note_for.new.to }))) c.self.inside.replicas (keys_kept xs n x (record x { to = c.note_for.new.to }) at refl) c.self.invariant.keyed;
    }

pub invariant_of-self-in-Err : goal.invariant_of-self-in-Err
invariant_of-self-in-Err c =
    let f : Forking = forking_of c.self.inside in
    let xs : List Child = c.self.inside.children.items in
    let n : ℕ = c.args.c in
    let x : Child = c.index_mut.result.now in
    let at : slice_get xs n ≡ Some x = item_child f c.args.self.now xs n x c.args.key c.self.view_is refl c.requires.child c.index_mut.ensures.value in
    let waits : entries_of (Some c.in-Err.x) ≡ f.waiting = ap (λ x. entries_of (Some x)) c.in-Err.ensures.back ∙ ap entries_of c.in-Some.ensures.value in
    let are : map child_seen (set xs n (record x { to = c.note_for.new.to })) ≡ f.children = unchanged_child xs n x c.note_for.new.to at c.note_for.ensures.put c.in-Err.ensures.held in
    record {
      forks = subst (λ (u : List StreamItem × (List Decision × List ChildSeen)). Forks (record f { waiting = u.0; decisions = u.1.0; children = u.1.1 }))
          (λ i. (sym waits i, (sym c.in-Err.ensures.decisions i, sym are i))) c.self.invariant.forks;
      keyed = keyed_still (map child_seen xs) (map child_seen (set xs n (record x { to = c.note_for.new.to }))) c.self.inside.replicas (keys_kept xs n x (record x { to = c.note_for.new.to }) at refl) c.self.invariant.keyed;
    }

pub returns-in-Err-clause-err : goal.returns-in-Err-clause-err
returns-in-Err-clause-err c =
    let f : Forking = forking_of c.self.inside in
    let xs : List Child = c.self.inside.children.items in
    let n : ℕ = c.args.c in
    let x : Child = c.index_mut.result.now in
    let at : slice_get xs n ≡ Some x = item_child f c.args.self.now xs n x c.args.key c.self.view_is refl c.requires.child c.index_mut.ensures.value in
    let waits : entries_of (Some c.in-Err.x) ≡ f.waiting = ap (λ x. entries_of (Some x)) c.in-Err.ensures.back ∙ ap entries_of c.in-Some.ensures.value in
    let are : map child_seen (set xs n (record x { to = c.note_for.new.to })) ≡ f.children = unchanged_child xs n x c.note_for.new.to at c.note_for.ensures.put c.in-Err.ensures.held in
    (λ i. record f { waiting = waits i; decisions = c.in-Err.ensures.decisions i; children = are i }) ∙ c.self.view_is

pub returns-in-Ok-clause-held : goal.returns-in-Ok-clause-held
returns-in-Ok-clause-held c =
    let f : Forking = forking_of c.self.inside in
    let xs : List Child = c.self.inside.children.items in
    let n : ℕ = c.args.c in
    let x : Child = c.index_mut.result.now in
    let at : slice_get xs n ≡ Some x = item_child f c.args.self.now xs n x c.args.key c.self.view_is refl c.requires.child c.index_mut.ensures.value in
    held_alone xs n x c.note_for.new.to at c.note_for.ensures.put ∙ ap (λ (f : Forking). map without_held f.children) c.self.view_is

pub returns-in-Err-clause-held : goal.returns-in-Err-clause-held
returns-in-Err-clause-held c =
    let f : Forking = forking_of c.self.inside in
    let xs : List Child = c.self.inside.children.items in
    let n : ℕ = c.args.c in
    let x : Child = c.index_mut.result.now in
    let at : slice_get xs n ≡ Some x = item_child f c.args.self.now xs n x c.args.key c.self.view_is refl c.requires.child c.index_mut.ensures.value in
    let are : map child_seen (set xs n (record x { to = c.note_for.new.to })) ≡ f.children = unchanged_child xs n x c.note_for.new.to at c.note_for.ensures.put c.in-Err.ensures.held in
    ap (map without_held) are ∙ ap (λ (f : Forking). map without_held f.children) c.self.view_is
