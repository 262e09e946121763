use Rattle.std.proofs.Common.{◌≡◌, ap, ◌∙◌}
use Rattle.std.proofs.lemmas.Result.{IfOk-at_ok}
use Rattle.sn_net.specs.Faced.{IsFaced}
use Rattle.sn_net.specs.declared.net.Net.TheVariants as net
use Rattle.sn_scope.proofs.Building.{filter_built}
use Rattle.sn_scope.proofs.trees.filter_node.Goals as goal

pub returns : goal.returns
returns c boxes room =
    let faced = c.in_ok-on_heap.field-0 in
    let copy = c.in_ok-copy.copy in
    let is : faced.net ≡ net.Filter copy = IfOk-at_ok (λ f. f.net ≡ net.Filter copy) c.in_ok-on_heap.ensures c.filter.ensures.net in
    let beside : IsFaced boxes faced = IfOk-at_ok (IsFaced boxes) c.in_ok-on_heap.ensures (c.filter.ensures.face boxes) in
    filter_built boxes c.args.filter.now room faced (is ∙ ap net.Filter c.in_ok-copy.ensures) beside
