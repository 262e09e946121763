use Rattle.std.proofs.Common.{sym, ◌∙◌, arith}
use Rattle.sn_net.proofs.Deterministic.{free_branch, all_branches_are}
use Rattle.sn_net.proofs.net.+all_det.Goals as goal

pub returns-then-not-all_det : goal.returns-then-not-all_det
returns-then-not-all_det t c =
    free_branch c.args.net.now c.in-Choice.place c.in-Choice.merge c.in-Choice.branches c.as_slice-branch-items.result.now c.in-Choice.faces c.loop-branch.branch-index c.branch-item.result c.in-Choice.is c.as_slice-branch-items.ensures c.loop-branch-test.true c.branch-item.is c.loop-branch.invariant (sym c.all_det-in-loop-branch.ensures ∙ c.if-not-all_det.true)

pub returns-after-loop-branch : goal.returns-after-loop-branch
returns-after-loop-branch t c =
    c.is_in_order.ensures
    ∙ all_branches_are c.args.net.now c.in-Choice.place c.in-Choice.merge c.in-Choice.branches c.as_slice-branch-items.result.now c.in-Choice.faces c.loop-branch.branch-index c.in-Choice.is c.as_slice-branch-items.ensures (omega (arith, c.loop-branch-test.false)) c.loop-branch.invariant
