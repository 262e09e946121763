use Rattle.std.proofs.Common.{◌∙◌, rules, arith}
use Rattle.std.proofs.lemmas.Result.{on_ok_weaker}
use Rattle.sn_net.specs.declared.net.Net.TheViews.{the_lemmas}
use Rattle.sn_net.proofs.Variants.{branch_numbered, all_branches, body_and_exit}
use Rattle.sn_net.proofs.faces.+push_variants.Goals as goal

pub push_variants-requires-in-loop-branch : goal.push_variants-requires-in-loop-branch
push_variants-requires-in-loop-branch t c = (
  search (rules, the_lemmas),
  branch_numbered c.args.boxes.now c.args.net.now c.in-Choice.place c.in-Choice.merge c.in-Choice.branches c.as_slice-branch-items.result.now c.in-Choice.faces c.loop-branch.branch-index c.branch-item.result c.in-Choice.is c.as_slice-branch-items.ensures c.requires c.loop-branch-test.true c.branch-item.is,
)

pub returns-after-loop-branch : goal.returns-after-loop-branch
returns-after-loop-branch t c =
    c.loop-branch.invariant
    ∙ all_branches c.args.boxes.now c.args.net.now c.in-Choice.place c.in-Choice.merge c.in-Choice.branches c.as_slice-branch-items.result.now c.in-Choice.faces c.loop-branch.branch-index c.args.sets.now c.in-Choice.is c.as_slice-branch-items.ensures (omega (arith, c.loop-branch-test.false))

pub returns-in_ok-push_variants-in-Star : goal.returns-in_ok-push_variants-in-Star
returns-in_ok-push_variants-in-Star t c =
    on_ok_weaker c.push_copy-in-Star.result
    (λ added. added ∙ body_and_exit c.args.boxes.now c.args.net.now c.in-Star.place c.in-Star.merge c.in-Star.body c.get-in-Star.result.now c.in-Star.exit c.in-Star.guard c.args.sets.now c.push_variants-in-Star.new.sets c.in-Star.is c.get-in-Star.ensures c.in_ok-push_variants-in-Star.ensures)
    c.push_copy-in-Star.ensures
