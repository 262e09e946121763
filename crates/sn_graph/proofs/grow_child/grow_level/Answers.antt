use Rattle.std.proofs.Common.{◌≡◌, ◌+◌, ◌-◌, ◌++◌, ◌∷◌, [], List, arith, rules, ap, subst, ◌∙◌}
use Rattle.std.proofs.lemmas.Result.{on_ok_weaker}
use Rattle.sn_model.specs.Run.{depth_of}
use Rattle.sn_model.specs.declared.step.Step.TheVariants as step
use Rattle.sn_view.specs.View as view
use Rattle.sn_view.specs.Parts.{Plan, dispatcher, own_child, plan}
use Rattle.sn_node.specs.Seen.{target_of}
use Rattle.sn_graph.specs.Grown.{Puts, next_of}
use Rattle.sn_graph.proofs.Plans.{plan_long}
use Rattle.sn_graph.proofs.Putting.{level_puts}
use Rattle.sn_graph.proofs.grow_child.grow_level.Goals as goal

pub returns : goal.returns
returns c =
    let run = c.args.run.now in
    let d = depth_of run in
    let old = c.args.grown.now in
    let mid = c.grow.new.grown in
    let p : Plan = plan d c.args.body.now in
    let steps = c.args.star.now.steps in
    let path = c.args.star.now.path in
    let goes = target_of c.args.goes in
    let at = c.in_ok-at.at in
    let less : c.saturating_sub.result ≡ c.args.star.now.left - 1 = search (rules, arith) in
    let own = own_child (next_of mid) ∷ [] in
    on_ok_weaker c.push_fork.result (λ h.
    level_puts run old mid c.push_fork.new.grown p c.args.merge c.args.star.now.left steps path goes at (plan_long d c.args.body.now)
    (c.in_ok-at.ensures ∙ ap (λ n. n + c.in_ok-width.field-0) c.in_ok-next.ensures ∙ ap (λ w. next_of old + w) (c.in_ok-width.ensures ∙ ap (λ n. (plan n c.args.body.now).width) c.depth.ensures.depth))
    (subst (λ (ns : List view.Node). Puts run ns old mid)
    (ap (λ s. p.nodes s c.as_slice-2.result.now (view.ToNode at) (next_of old)) c.in_ok-inside.ensures
    ∙ ap (λ s. p.nodes (steps ++ step.Inside ∷ step.Left ∷ []) s (view.ToNode at) (next_of old)) (c.as_slice-2.ensures ∙ c.in_ok-inside_path.ensures ∙ ap (λ s. s ++ 0 ∷ []) c.as_slice.ensures))
    c.in_ok-grow.ensures)
    (subst (λ (ns : List view.Node). Puts run ns mid c.push_fork.new.grown)
    (ap (λ n. dispatcher c.args.merge n own c.in_ok-next-2.next c.as_slice-3.result.now goes ∷ []) less
    ∙ ap (λ s. dispatcher c.args.merge (c.args.star.now.left - 1) own s c.as_slice-3.result.now goes ∷ []) c.in_ok-next-2.ensures
    ∙ ap (λ s. dispatcher c.args.merge (c.args.star.now.left - 1) own (steps ++ step.Inside ∷ step.Right ∷ []) s goes ∷ []) c.as_slice-3.ensures)
    h))
    c.push_fork.ensures
