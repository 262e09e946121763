use Rattle.std.proofs.Common.{arith, rules, [], ◌∷◌, ◌∙◌, ap, sym, ◌+◌}
use Rattle.sn_view.specs.View.{Plain, waits_more, child_gives}
use Rattle.sn_view.specs.Next.{send}
use Rattle.sn_node.specs.Entry.{entry_of}
use Rattle.sn_node.specs.Seen.{node_of, target_of}
use Rattle.sn_graph.specs.Arena.{view_of}
use Rattle.sn_graph.proofs.Changes.{changes, seen_past}
use Rattle.sn_graph.proofs.Reserving.{WaitsRoom, KeptRoom, at_child, at_changed, at_node, kept_less, room_at_child, room_at_node, waits_less}
use Rattle.sn_graph.proofs.arena.Arena.send.Goals as goal

pub returns-then-node-len-clause-view : goal.returns-then-node-len-clause-view
returns-then-node-len-clause-view c =
    ap (λ ns. record (view_of c.args.self.now) { nodes = ns })
    (changes node_of (waits_more (Plain (entry_of c.args.entry) ∷ [])) c.args.self.now.nodes.items c.in-Node.node c.index_mut.result.now c.wait.new.self c.index_mut.ensures.value c.wait.ensures.waits)
    ∙ ap (λ t. send (target_of t) (entry_of c.args.entry ∷ []) (view_of c.args.self.now)) (sym c.in-Node.is)

pub returns-then-node-len-clause-room : goal.returns-then-node-len-clause-room
returns-then-node-len-clause-room c n has =
    room_at_node c.args.goes n c.in-Node.node _ c.in-Node.is
    (at_changed (WaitsRoom (n + 1)) (WaitsRoom n) c.args.self.now.nodes.items c.in-Node.node c.index_mut.result.now c.wait.new.self c.index_mut.ensures.value
    (waits_less c.index_mut.result.now c.wait.new.self n c.wait.ensures.room)
    (at_node c.args.goes (n + 1) c.in-Node.node c.args.self.now c.in-Node.is has))

pub returns-else-node-len-clause-view : goal.returns-else-node-len-clause-view
returns-else-node-len-clause-view c =
    ap (λ ns. record (view_of c.args.self.now) { nodes = ns })
    (seen_past node_of (waits_more (Plain (entry_of c.args.entry) ∷ [])) c.args.self.now.nodes.items c.in-Node.node (search (rules, arith)))
    ∙ ap (λ t. send (target_of t) (entry_of c.args.entry ∷ []) (view_of c.args.self.now)) (sym c.in-Node.is)

pub returns-then-node-len-2-clause-view : goal.returns-then-node-len-2-clause-view
returns-then-node-len-2-clause-view c =
    ap (λ ns. record (view_of c.args.self.now) { nodes = ns })
    (changes node_of (child_gives c.in-Child.child (entry_of c.args.entry ∷ [])) c.args.self.now.nodes.items c.in-Child.node c.index_mut-then-node-len-2.result.now c.keep.new.self c.index_mut-then-node-len-2.ensures.value c.keep.ensures.kept)
    ∙ ap (λ t. send (target_of t) (entry_of c.args.entry ∷ []) (view_of c.args.self.now)) (sym c.in-Child.is)

pub returns-then-node-len-2-clause-room : goal.returns-then-node-len-2-clause-room
returns-then-node-len-2-clause-room c n has =
    room_at_child c.args.goes n c.in-Child.node c.in-Child.child _ c.in-Child.is
    (at_changed (KeptRoom c.in-Child.child (n + 1)) (KeptRoom c.in-Child.child n) c.args.self.now.nodes.items c.in-Child.node c.index_mut-then-node-len-2.result.now c.keep.new.self c.index_mut-then-node-len-2.ensures.value
    (kept_less c.index_mut-then-node-len-2.result.now c.keep.new.self c.in-Child.child n c.keep.ensures.room c.keep.ensures.children)
    (at_child c.args.goes (n + 1) c.in-Child.node c.in-Child.child c.args.self.now c.in-Child.is has))

pub returns-else-node-len-2-clause-view : goal.returns-else-node-len-2-clause-view
returns-else-node-len-2-clause-view c =
    ap (λ ns. record (view_of c.args.self.now) { nodes = ns })
    (seen_past node_of (child_gives c.in-Child.child (entry_of c.args.entry ∷ [])) c.args.self.now.nodes.items c.in-Child.node (search (rules, arith)))
    ∙ ap (λ t. send (target_of t) (entry_of c.args.entry ∷ []) (view_of c.args.self.now)) (sym c.in-Child.is)
