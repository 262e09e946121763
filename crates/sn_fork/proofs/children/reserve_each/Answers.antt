use Rattle.std.proofs.Common.{arith, ◌≡◌, ◌<◌, ◌≤◌, List, [], ◌∷◌, take, ◌∙◌, refl, sym, subst, length, length-set, Some}
use Rattle.std.specs.Prelude.{slice_get}
use Rattle.std.specs.List.{All}
use Rattle.std.proofs.lemmas.List.{take_all, take_more_set}
use Rattle.std.proofs.lemmas.List.Elements.{All-append, All-cons, All-nil}
use Rattle.std.proofs.lemmas.Option.{slice_get_read}
use Rattle.sn_component.specs.Outbox.{room}
use Rattle.sn_fork.specs.declared.fork.Child.{Child}
use Rattle.sn_fork.proofs.OneChild.{unchanged_child}
use Rattle.sn_fork.proofs.children.reserve_each.Goals as goal

pub returns-in_err-reserve-clause-same : goal.returns-in_err-reserve-clause-same
returns-in_err-reserve-clause-same c =
    let xs : List Child = c.loop-c.children.items in
    let x : Child = c.index_mut.result.now in
    let within : c.loop-c.c < length xs = omega (arith, c.loop-c-test.true, c.len-c-end.ensures, c.args.children.now.ok.0, c.loop-c.invariant.many) in
    let at : slice_get xs c.loop-c.c ≡ Some x = slice_get_read xs (length xs) c.loop-c.c x refl within c.index_mut.ensures.value in
    unchanged_child xs c.loop-c.c x c.reserve.new.self at c.reserve.ensures.put c.reserve.ensures.held ∙ c.loop-c.invariant.same

pub loop-c-preserved : goal.loop-c-preserved
loop-c-preserved c =
    let xs : List Child = c.loop-c.children.items in
    let x : Child = c.index_mut.result.now in
    let y : Child = record x { to = c.reserve.new.self } in
    let has_room : Child → Type 0 = λ c. 0 < room c.to in
    let within : c.loop-c.c < length xs = omega (arith, c.loop-c-test.true, c.len-c-end.ensures, c.args.children.now.ok.0, c.loop-c.invariant.many) in
    let at : slice_get xs c.loop-c.c ≡ Some x = slice_get_read xs (length xs) c.loop-c.c x refl within c.index_mut.ensures.value in record {
      same = unchanged_child xs c.loop-c.c x c.reserve.new.self at c.reserve.ensures.put c.reserve.ensures.held ∙ c.loop-c.invariant.same;
      many = length-set xs c.loop-c.c y ∙ c.loop-c.invariant.many;
      room = subst (All has_room) (sym (take_more_set xs c.loop-c.c y within))
          (All-append has_room (take c.loop-c.c xs) (y ∷ []) c.loop-c.invariant.room (All-cons has_room y [] c.in_ok-reserve.ensures.room (All-nil has_room)));
    }

pub returns-clause-room : goal.returns-clause-room
returns-clause-room c =
    let past : length c.loop-c.children.items ≤ c.loop-c.c = omega (arith, c.loop-c-test.false, c.len-c-end.ensures, c.args.children.now.ok.0, c.loop-c.invariant.many) in
    subst (All (λ (c : Child). 0 < room c.to)) (take_all c.loop-c.c c.loop-c.children.items past) c.loop-c.invariant.room
