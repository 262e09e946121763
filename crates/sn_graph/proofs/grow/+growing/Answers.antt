use Rattle.std.proofs.Common.{◌≡◌, ◌<◌, ◌≤◌, ◌-◌, ◌+◌, ◌++◌, ◌∷◌, [], List, max, arith, rules, sym, ap, subst, ◌∙◌, map, length}
use Rattle.std.proofs.Math.Nat.{max-le, le-max_left, le-max_right}
use Rattle.std.proofs.lemmas.Result.{on_ok_weaker}
use Rattle.std.proofs.lemmas.List.{drop_all, length-map}
use Rattle.std.proofs.lemmas.List.Elements.{All-get_or}
use Rattle.sn_model.specs.Run.{boxes_of, depth_of}
use Rattle.sn_net.specs.declared.net.Net.TheViews.{the_lemmas}
use Rattle.sn_net.specs.WellFormed.{FitsBoxes}
use Rattle.sn_net.proofs.net.Net.TheLaws.{the_size}
use Rattle.sn_model.specs.declared.step.Step.TheVariants as step
use Rattle.sn_view.specs.View as view
use Rattle.sn_view.specs.Parts.{Plan, plan, branch_nodes}
use Rattle.sn_node.specs.Seen.{target_of}
use Rattle.sn_graph.specs.Grown.{Puts, next_of}
use Rattle.sn_graph.proofs.Changes.{drop_seen}
use Rattle.sn_graph.proofs.Grows.{branches_fit, few_branches, left_fits, plan_choice, plan_serial, right_fits}
use Rattle.sn_graph.proofs.Plans.{plan_long}
use Rattle.sn_graph.proofs.Putting.{branch_puts, choice_puts, leaves_all, leaves_none, serial_puts}
use Rattle.sn_graph.proofs.grow.+growing.Goals as goal

pub grow-grow_series-requires : goal.grow-grow_series-requires
grow-grow_series-requires t c = (
  (
      let left : the_size c.get.result.now < the_size c.args.net.now = search (rules, the_lemmas) in
      let right : the_size c.get-in-Serial.result.now < the_size c.args.net.now = search (rules, the_lemmas) in
      let most : max (the_size c.get.result.now) (the_size c.get-in-Serial.result.now) ≤ the_size c.args.net.now - 1 = max-le (omega (arith, left)) (omega (arith, right)) in
      omega (arith, left, most)
      ),
  (
    left_fits (boxes_of c.args.run.now) c.args.net.now c.in-Serial.left c.in-Serial.right c.get.result.now c.in-Serial.is c.get.ensures c.requires,
    right_fits (boxes_of c.args.run.now) c.args.net.now c.in-Serial.left c.in-Serial.right c.get-in-Serial.result.now c.in-Serial.is c.get-in-Serial.ensures c.requires,
  ),
)

pub grow-grow_choice-requires : goal.grow-grow_choice-requires
grow-grow_choice-requires t c = (
  search (rules, the_lemmas),
  (
    few_branches (boxes_of c.args.run.now) c.args.net.now c.in-Choice.place c.in-Choice.merge c.in-Choice.branches c.as_slice-branches.result.now c.in-Choice.faces c.in-Choice.is c.as_slice-branches.ensures c.requires,
    branches_fit (boxes_of c.args.run.now) c.args.net.now c.in-Choice.place c.in-Choice.merge c.in-Choice.branches c.as_slice-branches.result.now c.in-Choice.faces c.in-Choice.is c.as_slice-branches.ensures c.requires,
  ),
)

pub grow-returns-in-Serial : goal.grow-returns-in-Serial
grow-returns-in-Serial t c =
    let d = depth_of c.args.run.now in
    on_ok_weaker c.grow_series.result (λ puts.
    subst (λ (p : Plan). Puts c.args.run.now (p.nodes c.args.steps.now c.args.path.now (target_of c.args.goes) (next_of c.args.grown.now)) c.args.grown.now c.grow_series.new.grown)
    (sym (plan_serial d c.args.net.now c.in-Serial.left c.in-Serial.right c.get.result.now c.get-in-Serial.result.now c.in-Serial.is c.get.ensures c.get-in-Serial.ensures)) puts)
    c.grow_series.ensures

pub grow-returns-in-Choice : goal.grow-returns-in-Choice
grow-returns-in-Choice t c =
    let d = depth_of c.args.run.now in
    on_ok_weaker c.grow_choice.result (λ puts.
    subst (λ (p : Plan). Puts c.args.run.now (p.nodes c.args.steps.now c.args.path.now (target_of c.args.goes) (next_of c.args.grown.now)) c.args.grown.now c.grow_choice.new.grown)
    (sym (plan_choice d c.args.net.now c.in-Choice.place c.in-Choice.merge c.in-Choice.branches c.as_slice-branches.result.now c.in-Choice.faces c.in-Choice.is c.as_slice-branches.ensures)) puts)
    c.grow_choice.ensures

pub grow_series-grow-requires : goal.grow_series-grow-requires
grow_series-grow-requires t c = (omega (arith, le-max_left (the_size c.args.left.now) (the_size c.args.right.now)), c.requires.left)

pub grow_series-grow-requires-2 : goal.grow_series-grow-requires-2
grow_series-grow-requires-2 t c = (omega (arith, le-max_right (the_size c.args.left.now) (the_size c.args.right.now)), c.requires.right)

pub grow_series-returns : goal.grow_series-returns
grow_series-returns t c =
    let run = c.args.run.now in
    let d = depth_of run in
    let old = c.args.grown.now in
    let mid = c.grow.new.grown in
    let l : Plan = plan d c.args.left.now in
    let r : Plan = plan d c.args.right.now in
    let steps = c.args.steps.now in
    let path = c.args.path.now in
    let goes = target_of c.args.goes in
    let at = c.in_ok-at.at in
    on_ok_weaker c.grow-2.result (λ h.
    serial_puts run old mid c.grow-2.new.grown l r steps path goes at (plan_long d c.args.left.now)
    (c.in_ok-at.ensures ∙ ap (λ n. n + c.in_ok-width.field-0) c.in_ok-next.ensures
    ∙ ap (λ w. next_of old + w) (c.in_ok-width.ensures ∙ ap (λ n. (plan n c.args.left.now).width) c.depth.ensures.depth))
    (subst (λ (ns : List view.Node). Puts run ns old mid)
    (ap (λ s. l.nodes s c.as_slice.result.now (view.ToNode at) (next_of old)) c.in_ok-first.ensures.steps
    ∙ ap (λ s. l.nodes (steps ++ step.Left ∷ []) s (view.ToNode at) (next_of old)) (c.as_slice.ensures ∙ c.in_ok-first.ensures.path))
    c.in_ok-grow.ensures)
    (subst (λ (ns : List view.Node). Puts run ns mid c.grow-2.new.grown)
    (ap (λ s. r.nodes s c.as_slice-2.result.now goes (next_of mid)) c.in_ok-second.ensures.steps
    ∙ ap (λ s. r.nodes (steps ++ step.Right ∷ []) s goes (next_of mid)) (c.as_slice-2.ensures ∙ c.in_ok-second.ensures.path))
    h))
    c.grow-2.ensures

pub grow_choice-push_fork-requires : goal.grow_choice-push_fork-requires
grow_choice-push_fork-requires t c = c.requires.few

pub grow_choice-overflow_cast-i : goal.grow_choice-overflow_cast-i
grow_choice-overflow_cast-i t c = search (arith, rules, c.requires.few, c.loop-i-test.true)

pub grow_choice-overflow_cast-i-in-loop-i : goal.grow_choice-overflow_cast-i-in-loop-i
grow_choice-overflow_cast-i-in-loop-i t c = search (arith, rules, c.requires.few, c.loop-i-test.true)

pub grow_choice-grow-requires : goal.grow_choice-grow-requires
grow_choice-grow-requires t c = (
  search (rules, the_lemmas),
  subst (FitsBoxes (boxes_of c.args.run.now)) (sym c.index-branches-i.is) (All-get_or (FitsBoxes (boxes_of c.args.run.now)) c.args.branches.now c.loop-i.i c.index-branches-i.result c.loop-i-test.true c.requires.fit),
)

pub grow_choice-loop-i-init : goal.grow_choice-loop-i-init
grow_choice-loop-i-init t c = leaves_all _ _ _

pub grow_choice-loop-i-preserved : goal.grow_choice-loop-i-preserved
grow_choice-loop-i-preserved t c =
    let run = c.args.run.now in
    let d = depth_of run in
    let p : Plan = plan d c.index-branches-i.result in
    let ps = map (plan d) c.args.branches.now in
    let child = view.ToChild c.in_ok-node.node (c.loop-i.i + 1) in
    let at = next_of c.loop-i.grown in
    branch_puts run c.push_fork.new.grown c.loop-i.grown c.grow.new.grown p ps c.in_ok-node.node c.loop-i.i c.args.steps.now c.args.path.now
    (branch_nodes c.in_ok-node.node 0 (next_of c.push_fork.new.grown) c.args.steps.now c.args.path.now ps)
    (plan_long d c.index-branches-i.result)
    (drop_seen (plan d) c.args.branches.now c.loop-i.i c.index-branches-i.result c.loop-i-test.true c.index-branches-i.is)
    (subst (λ (ns : List view.Node). Puts run ns c.loop-i.grown c.grow.new.grown)
    (ap (λ s. p.nodes s c.as_slice.result.now child at) c.in_ok-spot.ensures.steps
    ∙ ap (λ s. p.nodes (c.args.steps.now ++ step.Branch c.loop-i.i ∷ []) s child at) (c.as_slice.ensures ∙ c.in_ok-spot.ensures.path))
    c.in_ok-grow.ensures)
    c.loop-i.invariant

pub grow_choice-returns : goal.grow_choice-returns
grow_choice-returns t c =
    let run = c.args.run.now in
    let ps = map (plan (depth_of run)) c.args.branches.now in
    let node = c.in_ok-node.node in
    let all = branch_nodes node 0 (next_of c.push_fork.new.grown) c.args.steps.now c.args.path.now ps in
    let none = ap (branch_nodes node c.loop-i.i (next_of c.loop-i.grown) c.args.steps.now c.args.path.now) (drop_all c.loop-i.i ps (omega (arith, c.loop-i-test.false, length-map c.args.branches.now (plan (depth_of run))))) in
    choice_puts run c.args.grown.now c.push_fork.new.grown c.loop-i.grown c.args.merge ps c.args.steps.now c.args.path.now (target_of c.args.goes) node c.in_ok-node.ensures
    c.in_ok-push_fork.ensures (leaves_none run _ all c.push_fork.new.grown c.loop-i.grown none c.loop-i.invariant)
