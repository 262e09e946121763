use Rattle.std.proofs.Common.{◌≡◌, subst, sym}
use Rattle.std.proofs.lemmas.Result.{IfOk-at_ok}
use Rattle.sn_net.specs.Faced.{IsFaced}
use Rattle.sn_net.specs.declared.net.Net.TheVariants as net
use Rattle.sn_scope.specs.Built.{IsBuilt, IsMade}
use Rattle.sn_scope.proofs.Building.{right_unbuilt, serial_built}
use Rattle.sn_scope.proofs.trees.serial_over.Goals as goal

pub returns-in_ok-on_heap-in-Some : goal.returns-in_ok-on_heap-in-Some
returns-in_ok-on_heap-in-Some c boxes first second old between new left right =
    let faced = c.in_ok-on_heap-in-Some.field-0 in
    let before = c.into_inner.result in
    let behind = c.into_inner-in-Some.result in
    let made : IsMade boxes first old between before = subst (IsMade boxes first old between) (sym c.into_inner.ensures) left in
    let more : IsMade boxes second between new behind =
    subst (IsMade boxes second between new) (sym c.into_inner-in-Some.ensures) (subst (IsBuilt boxes second between new) c.in-Some.is (IfOk-at_ok (IsBuilt boxes second between new) c.in_ok-right.was right)) in
    let is : faced.net ≡ net.Serial before.net behind.net = IfOk-at_ok (λ f. f.net ≡ net.Serial before.net behind.net) c.in_ok-on_heap-in-Some.ensures c.serial-faced.ensures.net in
    let beside : IsFaced boxes faced = IfOk-at_ok (IsFaced boxes) c.in_ok-on_heap-in-Some.ensures (c.serial-faced.ensures.face boxes made.beside) in
    serial_built boxes first second old between new before behind faced made more is beside

pub returns-in-None : goal.returns-in-None
returns-in-None c boxes first second old between new left right =
    right_unbuilt boxes first second old between new c.args.left left (subst (IsBuilt boxes second between new) c.in-None.is (IfOk-at_ok (IsBuilt boxes second between new) c.in_ok-right.was right))
