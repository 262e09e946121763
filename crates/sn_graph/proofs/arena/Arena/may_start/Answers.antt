use Rattle.std.proofs.Common.{◌&&◌, ◌∙◌, ap, arith, rules, sym}
use Rattle.std.specs.List.{list_any}
use Rattle.sn_view.specs.Next.{has_no_call, is_box}
use Rattle.sn_node.specs.Seen.{node_of}
use Rattle.sn_node.specs.declared.node.Node.{Node}
use Rattle.sn_graph.proofs.Changes.{read_twice}
use Rattle.sn_graph.proofs.Starting.{may_there, none_elsewhere, none_past}
use Rattle.sn_graph.proofs.arena.Arena.may_start.Goals as goal

pub returns-then-i-len : goal.returns-then-i-len
returns-then-i-len c = sym (none_past c.args.self.now c.args.i (search (rules, arith))).not_enabled

pub returns-in-Some : goal.returns-in-Some
returns-in-Some c =
    let a = c.index.result.now in
    let b = c.index-in-Some.result.now in
    let from = c.as_slice.ensures ∙ ap (λ (n : Node). n.made.path) (read_twice c.args.self.now.nodes.items c.args.i a b (search (rules, arith)) c.index.ensures c.index-in-Some.ensures) in
    c.has_free.ensures
    ∙ sym (may_there c.args.self.now c.args.run.now c.requires.made c.args.i b (search (rules, arith)) c.index-in-Some.ensures c.net.result.now c.as_slice.result.now c.net.ensures.net from
    ∙ ap (λ o. is_box o && list_any has_no_call (node_of b).waiting) c.in-Some.ensures)

pub returns-in-None : goal.returns-in-None
returns-in-None c =
    sym (none_elsewhere c.args.self.now c.args.run.now c.requires.made c.args.i c.index.result.now (search (rules, arith)) c.index.ensures c.net.result.now c.as_slice.result.now
    c.net.ensures.net c.as_slice.ensures c.in-None.ensures).not_enabled
