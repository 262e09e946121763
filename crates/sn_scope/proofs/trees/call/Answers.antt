use Rattle.std.proofs.Common.{◌≡◌, ◌<◌, ◌≤◌, length, IfSome, sym, subst, suc, arith}
use Rattle.std.proofs.lemmas.Result.{IfOk-at_ok}
use Rattle.sn_net.specs.Faced.{IsFaced}
use Rattle.sn_net.specs.Net.{nodes}
use Rattle.sn_net.specs.declared.net.Net.TheVariants as net
use Rattle.sn_scope.specs.Built.{IsMade}
use Rattle.sn_scope.proofs.Building.{box_built}
use Rattle.sn_scope.proofs.Levels.{call_past, call_within}
use Rattle.sn_scope.proofs.trees.call.Goals as goal

pub returns-then-number-len : goal.returns-then-number-len
returns-then-number-len c room =
    let past : length c.args.boxes.now ≤ c.args.number = omega (arith, c.len.ensures, c.if-number-len.true) in
    subst (λ d. IfSome d (λ net. suc room < nodes net)) (sym (call_past c.args.boxes.now c.args.place c.args.number past)) tt

pub returns : goal.returns
returns c room =
    let boxes = c.args.boxes.now in
    let faced = c.in_ok-on_heap.field-0 in
    let within : c.args.number < length boxes = omega (arith, c.len.ensures, c.if-number-len.false) in
    let is : faced.net ≡ net.Box c.args.place c.args.number = IfOk-at_ok (λ f. f.net ≡ net.Box c.args.place c.args.number) c.in_ok-on_heap.ensures c.of_box-faced.ensures.net in
    let beside : IsFaced boxes faced = IfOk-at_ok (IsFaced boxes) c.in_ok-on_heap.ensures c.of_box-faced.ensures.face in
    subst (λ d. IsMade boxes d (suc room) room faced) (sym (call_within boxes c.args.place c.args.number within)) (box_built boxes c.args.place c.args.number room faced is beside)
