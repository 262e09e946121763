use Rattle.std.proofs.Common.{◌+◌, ℕ, List, arith, rules, sym, ap, ◌∙◌, map, cond, Bool, drop}
use Rattle.std.specs.Prelude.{Some, Option}
use Rattle.std.specs.List.{position_from}
use Rattle.sn_net.specs.Dispatchers.{stream_key}
use Rattle.sn_view.specs.Next.{has_key}
use Rattle.sn_node.specs.Child.{child_of}
use Rattle.sn_node.specs.declared.children.Child.{Child}
use Rattle.sn_node.proofs.Changes.{drop_seen}
use Rattle.sn_node.proofs.children.find_child.Goals as goal

pub returns-then-is_same_child : goal.returns-then-is_same_child
returns-then-is_same_child c =
    let xs : List Child = c.args.children.now in
    let p = has_key (stream_key c.args.key) in
    let F : Bool → Option ℕ = λ b. cond b (Some c.loop-i.i) (position_from p (c.loop-i.i + 1) (drop (c.loop-i.i + 1) (map child_of xs))) in
    sym (ap F (sym c.is_same_child.ensures ∙ c.if-is_same_child.true))
    ∙ sym (ap (position_from p c.loop-i.i) (drop_seen child_of xs c.loop-i.i c.index-children-i.result (search (rules, arith)) c.index-children-i.is))
    ∙ c.loop-i.invariant

pub loop-i-preserved : goal.loop-i-preserved
loop-i-preserved c =
    let xs : List Child = c.args.children.now in
    let p = has_key (stream_key c.args.key) in
    let F : Bool → Option ℕ = λ b. cond b (Some c.loop-i.i) (position_from p (c.loop-i.i + 1) (drop (c.loop-i.i + 1) (map child_of xs))) in
    sym (ap F (sym c.is_same_child.ensures ∙ c.if-is_same_child.false))
    ∙ sym (ap (position_from p c.loop-i.i) (drop_seen child_of xs c.loop-i.i c.index-children-i.result (search (rules, arith)) c.index-children-i.is))
    ∙ c.loop-i.invariant
