use Rattle.std.proofs.Common.{◌≡◌, List, refl, sym, ap, subst, ◌∙◌, ◌∷◌, ◌+◌, [], map}
use Rattle.std.proofs.lemmas.Result.{on_ok_weaker}
use Rattle.sn_model.specs.Run.{depth_of}
use Rattle.sn_view.specs.Parts.{branch_children, new_fork, own_child, plan}
use Rattle.sn_view.specs.View as view
use Rattle.sn_node.specs.Seen.{target_of}
use Rattle.sn_node.specs.declared.node.Made.{Made}
use Rattle.sn_graph.specs.Grown.{Puts, next_of}
use Rattle.sn_graph.proofs.Branches.{fork_seen}
use Rattle.sn_graph.proofs.grow.push_fork.Goals as goal

pub returns : goal.returns
returns c =
    let run = c.args.run.now in
    let bs = c.args.branches.now in
    let at = next_of c.args.grown.now in
    let merge = c.args.merge in
    let seen = c.in_ok-node.ensures.seen in
    let one : List view.Child = own_child c.in_ok-number.number ∷ [] in
    let many : List view.Child = own_child c.in_ok-number.number ∷ branch_children 0 c.in_ok-first.first (map (plan c.depth.result) bs) in
    let all : List view.Child = own_child at ∷ branch_children 0 (at + 1) (map (plan (depth_of run)) bs) in
    let forked = c.in_ok-add_branches.ensures.ok merge (record { is = seen ∙ ap (λ (n : view.Node). record n { state = new_fork merge one; children = one }) (sym seen) }) in
    let same : many ≡ all =
    ap (λ d. own_child c.in_ok-number.number ∷ branch_children 0 c.in_ok-first.first (map (plan d) bs)) c.depth.ensures.depth
    ∙ ap (λ n. own_child c.in_ok-number.number ∷ branch_children 0 n (map (plan (depth_of run)) bs)) c.in_ok-first.ensures
    ∙ ap (λ n. own_child n ∷ branch_children 0 (n + 1) (map (plan (depth_of run)) bs)) c.in_ok-number.ensures in
    let node = forked.is ∙ ap (λ (n : view.Node). record n { state = new_fork merge many; children = many }) seen in
    on_ok_weaker c.push.result
    (λ puts. subst (λ (n : view.Node). Puts run (n ∷ []) c.args.grown.now c.push.new.self)
    (node ∙ fork_seen _ merge c.args.left all c.args.steps.now c.args.path.now (target_of c.args.goes)
    c.in_ok-made.ensures.steps c.in_ok-made.ensures.path c.in_ok-made.ensures.left (ap target_of c.in_ok-made.ensures.goes) refl (ap (new_fork merge) same) same) puts)
    (c.push.ensures run (ap (λ (m : Made). m.run.value) (c.in_ok-add_branches.ensures.made ∙ c.in_ok-node.ensures.made) ∙ c.in_ok-made.ensures.run))
