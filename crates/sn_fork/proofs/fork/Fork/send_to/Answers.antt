use Rattle.std.proofs.Common.{◌≡◌, ◌<◌, ℕ, suc, List, map, take, drop, set, Some, arith, ap, refl, sym, subst}
use Rattle.sn_net.specs.Dispatchers.{stream_key}
use Rattle.sn_fork.specs.Turns.{GoesOn, moves_of}
use Rattle.sn_fork.proofs.Moves.{child_moves, goes_child}
use Rattle.std.specs.Prelude.{slice_get}
use Rattle.sn_fork.specs.declared.fork.Child.{Child}
use Rattle.sn_fork.specs.Facts.{Forks}
use Rattle.sn_fork.specs.Fork.{child_seen, forking_of}
use Rattle.sn_fork.specs.Seen.{ChildSeen, Forking}
use Rattle.sn_fork.proofs.Steps.{child_read, may_send, seen_around, seen_at, seen_other, set_there}
use Rattle.sn_fork.proofs.Taking.{after_sending}
use Rattle.sn_fork.proofs.Table.{keyed_still, keys_kept}
use Rattle.sn_fork.proofs.fork.Fork.send_to.Goals as goal

pub send-requires : goal.send-requires
send-requires g c =
    let xs : List Child = c.self.inside.children.items in
    let n : ℕ = c.args.c in
    let x : Child = c.index_mut.result.now in
    let at : slice_get xs n ≡ Some x = child_read c.args.self.now xs n x (ap (λ (f : Forking). f.children) c.self.view_is) c.requires c.index_mut.ensures.value in
    record { may = may_send (forking_of c.self.inside) c.self.invariant.forks (map child_seen (take n xs)) (map child_seen (drop (suc n) xs)) (child_seen x) (seen_around xs n x at) }

pub invariant_of-self : goal.invariant_of-self
invariant_of-self g c =
    let f : Forking = forking_of c.self.inside in
    let xs : List Child = c.self.inside.children.items in
    let n : ℕ = c.args.c in
    let x : Child = c.index_mut.result.now in
    let at : slice_get xs n ≡ Some x = child_read c.args.self.now xs n x (ap (λ (f : Forking). f.children) c.self.view_is) c.requires c.index_mut.ensures.value in
    record {
      forks = subst (λ (l : List ChildSeen). Forks (record f { children = l })) (sym (seen_other xs n x (record x { to = c.send.new.self }) at))
          (after_sending f c.self.invariant.forks (map child_seen (take n xs)) (map child_seen (drop (suc n) xs)) (child_seen x) c.send.new.self.put c.send.new.self.held.items
          (seen_around xs n x at) c.send.ensures.given c.send.ensures.made);
      keyed = keyed_still (map child_seen xs) (map child_seen (set xs n (record x { to = c.send.new.self }))) c.self.inside.replicas (keys_kept xs n x (record x { to = c.send.new.self }) at refl) c.self.invariant.keyed;
    }

pub returns-clause-goes : goal.returns-clause-goes
returns-clause-goes g c =
    let f : Forking = forking_of c.self.inside in
    let xs : List Child = c.self.inside.children.items in
    let n : ℕ = c.args.c in
    let x : Child = c.index_mut.result.now in
    let at : slice_get xs n ≡ Some x = child_read c.args.self.now xs n x (ap (λ (f : Forking). f.children) c.self.view_is) c.requires c.index_mut.ensures.value in
    subst (λ (g : Forking). GoesOn g (record f { children = map child_seen (set xs n (record x { to = c.send.new.self })) })) c.self.view_is
    (goes_child f xs n x (record x { to = c.send.new.self }) refl at (λ i. (stream_key x.key, (c.send.ensures.made i, x.from.made))) (omega (arith, c.send.ensures.moves)))

pub returns-clause-some : goal.returns-clause-some
returns-clause-some g c =
    let f : Forking = forking_of c.self.inside in
    let xs : List Child = c.self.inside.children.items in
    let n : ℕ = c.args.c in
    let x : Child = c.index_mut.result.now in
    let at : slice_get xs n ≡ Some x = child_read c.args.self.now xs n x (ap (λ (f : Forking). f.children) c.self.view_is) c.requires c.index_mut.ensures.value in
    λ some.
    subst (λ (g : Forking). moves_of g < moves_of (record f { children = map child_seen (set xs n (record x { to = c.send.new.self })) })) c.self.view_is
    (child_moves f xs n x (record x { to = c.send.new.self }) refl at (omega (arith, c.send.ensures.some some)))

pub returns-clause-full : goal.returns-clause-full
returns-clause-full g c =
    let xs : List Child = c.self.inside.children.items in
    let n : ℕ = c.args.c in
    let x : Child = c.index_mut.result.now in
    let y : Child = record x { to = c.send.new.self } in
    let at : slice_get xs n ≡ Some x = child_read c.args.self.now xs n x (ap (λ (f : Forking). f.children) c.self.view_is) c.requires c.index_mut.ensures.value in
    λ full. (n, child_seen y, seen_at (set xs n y) n y (set_there xs n x y at), c.send.ensures.full full)
