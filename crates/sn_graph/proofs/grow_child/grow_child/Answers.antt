use Rattle.std.proofs.Common.{◌≡◌, List, ℤ, to_z, of_z, length, rules, arith, sym, ap, subst, ◌∙◌}
use Rattle.std.proofs.lemmas.Int.{to_z-of_z}
use Rattle.std.specs.Int.{w64}
use Rattle.std.specs.Prelude.{FitsSigned, OnOk, Some}
use Rattle.sn_streams.specs.Keys.{Key as StreamKey, Value}
use Rattle.sn_net.specs.Dispatchers.{stream_key}
use Rattle.sn_net.specs.WellFormed.{FitsBoxes}
use Rattle.sn_model.specs.Run.{boxes_of, depth_of, net_of}
use Rattle.sn_view.specs.Next.{new_nodes}
use Rattle.sn_view.specs.Parts.{part_at}
use Rattle.sn_view.specs.View as view
use Rattle.sn_node.specs.Answered.{form_at}
use Rattle.sn_node.specs.Seen.{node_of}
use Rattle.std.proofs.lemmas.Result.{on_ok_weaker}
use Rattle.sn_graph.specs.Grown.{Puts, next_of}
use Rattle.sn_graph.proofs.Unfolding.{split_body, split_form, split_nodes, star_body, star_form, star_nodes}
use Rattle.sn_graph.proofs.grow_child.grow_child.Goals as goal

pub grow_level-requires : goal.grow_level-requires
grow_level-requires c =
    let there : Some c.in-Some.part.now ≡ part_at (net_of c.args.run.now) c.as_slice.result.now = c.in-Some.ensures ∙ ap (λ n. part_at n c.as_slice.result.now) c.net.ensures.net in
    star_body (boxes_of c.args.run.now) (net_of c.args.run.now) c.as_slice.result.now c.in-Some.part.now (subst (FitsBoxes (boxes_of c.args.run.now)) c.net.ensures.net c.net.ensures.formed) there
    c.in-Star.place c.in-Star.merge c.in-Star.body c.get.result.now c.in-Star.exit c.in-Star.guard c.in-Star.is c.get.ensures

pub grow_replica-requires : goal.grow_replica-requires
grow_replica-requires c =
    let there : Some c.in-Some.part.now ≡ part_at (net_of c.args.run.now) c.as_slice.result.now = c.in-Some.ensures ∙ ap (λ n. part_at n c.as_slice.result.now) c.net.ensures.net in
    split_body (boxes_of c.args.run.now) (net_of c.args.run.now) c.as_slice.result.now c.in-Some.part.now (subst (FitsBoxes (boxes_of c.args.run.now)) c.net.ensures.net c.net.ensures.formed) there
    c.in-Split.place c.in-Split.merge c.in-Split.body c.get-in-Value.result.now c.in-Split.tag c.in-Split.is c.get-in-Value.ensures

pub returns-in-Star : goal.returns-in-Star
returns-in-Star c =
    let run = c.args.run.now in
    let a = c.args.node.now in
    let there : Some c.in-Some.part.now ≡ part_at (net_of run) c.as_slice.result.now = c.in-Some.ensures ∙ ap (λ n. part_at n c.as_slice.result.now) c.net.ensures.net in
    let count : c.len.result ≡ length a.children.list.items = search (rules, arith) in
    on_ok_weaker c.grow_level.result (λ h.
    subst (λ (ns : List view.Node). Puts run ns c.args.grown.now c.grow_level.new.grown)
    (star_nodes run c.args.i (next_of c.args.grown.now) (stream_key c.args.key) a c.as_slice.result.now c.in-Star.place c.in-Star.merge c.in-Star.body c.get.result.now c.in-Star.exit c.in-Star.guard c.len.result
    (star_form (net_of run) c.as_slice.result.now c.in-Some.part.now there c.in-Star.place c.in-Star.merge c.in-Star.body c.in-Star.exit c.in-Star.guard c.in-Star.is)
    c.as_slice.ensures c.get.ensures count)
    h)
    c.grow_level.ensures

pub returns-in-Value : goal.returns-in-Value
returns-in-Value c =
    let run = c.args.run.now in
    let a = c.args.node.now in
    let there : Some c.in-Some.part.now ≡ part_at (net_of run) c.as_slice.result.now = c.in-Some.ensures ∙ ap (λ n. part_at n c.as_slice.result.now) c.net.ensures.net in
    let count : c.len.result ≡ length a.children.list.items = search (rules, arith) in
    let fits : FitsSigned w64 c.in-Value.value = search rules in
    let z : ℤ = to_z w64 (of_z w64 c.in-Value.value) in
    let same_z : z ≡ c.in-Value.value = to_z-of_z w64 c.in-Value.value fits in
    let made : StreamKey → List view.Node = λ k. new_nodes (depth_of run) (form_at (net_of run) a.made.path) k c.args.i (node_of a) (next_of c.args.grown.now) in
    subst (λ key. OnOk c.grow_replica.result (Puts run (made (stream_key key)) c.args.grown.now c.grow_replica.new.grown)) (sym c.in-Value.is)
    (subst (λ v. OnOk c.grow_replica.result (Puts run (made (Value v)) c.args.grown.now c.grow_replica.new.grown)) same_z (on_ok_weaker c.grow_replica.result (λ h.
    subst (λ (ns : List view.Node). Puts run ns c.args.grown.now c.grow_replica.new.grown)
    (split_nodes run c.args.i (next_of c.args.grown.now) z a c.as_slice.result.now c.in-Split.place c.in-Split.merge c.in-Split.body c.get-in-Value.result.now c.in-Split.tag c.len.result
    (split_form (net_of run) c.as_slice.result.now c.in-Some.part.now there c.in-Split.place c.in-Split.merge c.in-Split.body c.in-Split.tag c.in-Split.is)
    c.as_slice.ensures c.get-in-Value.ensures count)
    h)
    c.grow_replica.ensures))
