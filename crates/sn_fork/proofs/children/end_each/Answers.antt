use Rattle.std.proofs.Common.{arith, ◌≡◌, ◌<◌, ◌≤◌, ◌+◌, List, ◌∷◌, ◌∙◌, ap, map, drop, set, add-one, refl, sym, subst, length, length-set, Some}
use Rattle.std.specs.Prelude.{slice_get}
use Rattle.std.specs.List.{All}
use Rattle.std.proofs.lemmas.List.{drop-set-lt, drop_more, length-map}
use Rattle.std.proofs.lemmas.List.Elements.{All-head, All-tail}
use Rattle.std.proofs.lemmas.Option.{slice_get_read}
use Rattle.sn_component.specs.Outbox.{room}
use Rattle.sn_fork.specs.declared.fork.Child.{Child}
use Rattle.sn_fork.specs.Fork.{child_seen}
use Rattle.sn_fork.proofs.OneChild.{FirstHold, all_hold, one_more_holds}
use Rattle.sn_fork.proofs.children.end_each.Goals as goal

pub hold-requires : goal.hold-requires
hold-requires c =
    let xs : List Child = c.loop-c.children.items in
    let x : Child = c.index_mut.result.now in
    let within : c.loop-c.c < length xs = omega (arith, c.loop-c-test.true, c.len-c-end.ensures, c.args.children.now.ok.0, c.loop-c.invariant.many) in
    let here : drop c.loop-c.c xs ≡ x ∷ drop (c.loop-c.c + 1) xs = drop_more xs c.loop-c.c x within ∙ ap (λ y. y ∷ drop (c.loop-c.c + 1) xs) (sym c.index_mut.ensures.value) in
    All-head (λ (c : Child). 0 < room c.to) x (drop (c.loop-c.c + 1) xs) (subst (All (λ (c : Child). 0 < room c.to)) here c.loop-c.invariant.room)

pub loop-c-preserved : goal.loop-c-preserved
loop-c-preserved c =
    let xs : List Child = c.loop-c.children.items in
    let x : Child = c.index_mut.result.now in
    let y : Child = record x { to = c.hold.new.self } in
    let within : c.loop-c.c < length xs = omega (arith, c.loop-c-test.true, c.len-c-end.ensures, c.args.children.now.ok.0, c.loop-c.invariant.many) in
    let at : slice_get xs c.loop-c.c ≡ Some x = slice_get_read xs (length xs) c.loop-c.c x refl within c.index_mut.ensures.value in
    let here : drop c.loop-c.c xs ≡ x ∷ drop (c.loop-c.c + 1) xs = drop_more xs c.loop-c.c x within ∙ ap (λ y. y ∷ drop (c.loop-c.c + 1) xs) (sym c.index_mut.ensures.value) in record {
      hold = subst (λ n. FirstHold n (map child_seen c.args.children.now.items) (map child_seen (set xs c.loop-c.c y))) (sym (add-one c.loop-c.c))
          (one_more_holds c.loop-c.c (map child_seen c.args.children.now.items) xs x c.hold.new.self c.loop-c.invariant.hold at c.hold.ensures.put c.hold.ensures.given);
      room = subst (All (λ (c : Child). 0 < room c.to)) (sym (drop-set-lt (c.loop-c.c + 1) xs c.loop-c.c y (omega arith)))
          (All-tail (λ (c : Child). 0 < room c.to) x (drop (c.loop-c.c + 1) xs) (subst (All (λ (c : Child). 0 < room c.to)) here c.loop-c.invariant.room));
      many = length-set xs c.loop-c.c y ∙ c.loop-c.invariant.many;
    }

pub returns : goal.returns
returns c =
    let past : length (map child_seen c.args.children.now.items) ≤ c.loop-c.c =
    omega (arith, length-map c.args.children.now.items child_seen, c.loop-c-test.false, c.len-c-end.ensures, c.args.children.now.ok.0) in
    all_hold c.loop-c.c (map child_seen c.args.children.now.items) (map child_seen c.loop-c.children.items) past c.loop-c.invariant.hold
