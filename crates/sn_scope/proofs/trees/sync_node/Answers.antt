use Rattle.std.proofs.Common.{◌≡◌, ap, ◌∙◌}
use Rattle.std.proofs.lemmas.Result.{IfOk-at_ok}
use Rattle.sn_net.specs.Faced.{IsFaced}
use Rattle.sn_net.specs.declared.net.Net.TheVariants as net
use Rattle.sn_scope.proofs.Building.{sync_built}
use Rattle.sn_scope.proofs.trees.sync_node.Goals as goal

pub returns : goal.returns
returns c boxes room =
    let faced = c.in_ok-on_heap.field-0 in
    let copies = c.in_ok-copies.copies in
    let is : faced.net ≡ net.Sync c.args.place copies = IfOk-at_ok (λ f. f.net ≡ net.Sync c.args.place copies) c.in_ok-on_heap.ensures c.sync.ensures.net in
    let beside : IsFaced boxes faced = IfOk-at_ok (IsFaced boxes) c.in_ok-on_heap.ensures (c.sync.ensures.face boxes) in
    sync_built boxes c.args.place c.args.patterns.now room faced (is ∙ ap (net.Sync c.args.place) c.in_ok-copies.ensures) beside
