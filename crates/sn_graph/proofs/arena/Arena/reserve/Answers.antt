use Rattle.std.proofs.Common.{arith, rules, refl, ap}
use Rattle.sn_node.specs.Seen.{node_of}
use Rattle.sn_graph.specs.Arena.{view_of}
use Rattle.sn_graph.proofs.Changes.{unchanged}
use Rattle.sn_graph.proofs.Reserving.{WaitsRoom, KeptRoom, at_past, at_set, keeps_kept, keeps_waits, room_at_child, room_at_node, rooms_kept}
use Rattle.sn_graph.proofs.arena.Arena.reserve.Goals as goal

pub returns-in_err-reserve-in-Node-clause-view : goal.returns-in_err-reserve-in-Node-clause-view
returns-in_err-reserve-in-Node-clause-view c =
    ap (λ ns. record (view_of c.args.self.now) { nodes = ns })
    (unchanged node_of c.args.self.now.nodes.items c.in-Node.node c.index_mut.result.now c.reserve-then-node-len.new.self c.index_mut.ensures.value c.reserve-then-node-len.ensures.same)

pub returns-in_err-reserve-in-Node-clause-rooms : goal.returns-in_err-reserve-in-Node-clause-rooms
returns-in_err-reserve-in-Node-clause-rooms c =
    rooms_kept c.args.self.now _ c.in-Node.node c.index_mut.result.now c.reserve-then-node-len.new.self refl refl c.index_mut.ensures.value
    (keeps_waits c.index_mut.result.now c.reserve-then-node-len.new.self c.reserve-then-node-len.ensures.kept c.reserve-then-node-len.ensures.children)

pub returns-in_err-reserve_kept-in-Child-clause-view : goal.returns-in_err-reserve_kept-in-Child-clause-view
returns-in_err-reserve_kept-in-Child-clause-view c =
    ap (λ ns. record (view_of c.args.self.now) { nodes = ns })
    (unchanged node_of c.args.self.now.nodes.items c.in-Child.node c.index_mut-then-node-len-2.result.now c.reserve_kept.new.self c.index_mut-then-node-len-2.ensures.value c.reserve_kept.ensures.same)

pub returns-in_err-reserve_kept-in-Child-clause-rooms : goal.returns-in_err-reserve_kept-in-Child-clause-rooms
returns-in_err-reserve_kept-in-Child-clause-rooms c =
    rooms_kept c.args.self.now _ c.in-Child.node c.index_mut-then-node-len-2.result.now c.reserve_kept.new.self refl refl c.index_mut-then-node-len-2.ensures.value
    (keeps_kept c.index_mut-then-node-len-2.result.now c.reserve_kept.new.self c.reserve_kept.ensures.waiting c.reserve_kept.ensures.rooms c.reserve_kept.ensures.same)

pub returns-in_ok-reserve-in-Node-clause-view : goal.returns-in_ok-reserve-in-Node-clause-view
returns-in_ok-reserve-in-Node-clause-view c =
    ap (λ ns. record (view_of c.args.self.now) { nodes = ns })
    (unchanged node_of c.args.self.now.nodes.items c.in-Node.node c.index_mut.result.now c.reserve-then-node-len.new.self c.index_mut.ensures.value c.reserve-then-node-len.ensures.same)

pub returns-in_ok-reserve-in-Node-clause-room : goal.returns-in_ok-reserve-in-Node-clause-room
returns-in_ok-reserve-in-Node-clause-room c =
    room_at_node c.args.goes c.args.n c.in-Node.node _ c.in-Node.is
    (at_set (WaitsRoom c.args.n) c.args.self.now.nodes.items c.in-Node.node c.reserve-then-node-len.new.self c.in_ok-reserve-in-Node.ensures.room)

pub returns-in_ok-reserve-in-Node-clause-rooms : goal.returns-in_ok-reserve-in-Node-clause-rooms
returns-in_ok-reserve-in-Node-clause-rooms c =
    rooms_kept c.args.self.now _ c.in-Node.node c.index_mut.result.now c.reserve-then-node-len.new.self refl refl c.index_mut.ensures.value
    (keeps_waits c.index_mut.result.now c.reserve-then-node-len.new.self c.reserve-then-node-len.ensures.kept c.reserve-then-node-len.ensures.children)

pub returns-else-node-len-clause-room : goal.returns-else-node-len-clause-room
returns-else-node-len-clause-room c =
    room_at_node c.args.goes c.args.n c.in-Node.node _ c.in-Node.is
    (at_past (WaitsRoom c.args.n) c.args.self.now.nodes.items c.in-Node.node (search (rules, arith)))

pub returns-in_ok-reserve_kept-in-Child-clause-view : goal.returns-in_ok-reserve_kept-in-Child-clause-view
returns-in_ok-reserve_kept-in-Child-clause-view c =
    ap (λ ns. record (view_of c.args.self.now) { nodes = ns })
    (unchanged node_of c.args.self.now.nodes.items c.in-Child.node c.index_mut-then-node-len-2.result.now c.reserve_kept.new.self c.index_mut-then-node-len-2.ensures.value c.reserve_kept.ensures.same)

pub returns-in_ok-reserve_kept-in-Child-clause-room : goal.returns-in_ok-reserve_kept-in-Child-clause-room
returns-in_ok-reserve_kept-in-Child-clause-room c =
    room_at_child c.args.goes c.args.n c.in-Child.node c.in-Child.child _ c.in-Child.is
    (at_set (KeptRoom c.in-Child.child c.args.n) c.args.self.now.nodes.items c.in-Child.node c.reserve_kept.new.self c.in_ok-reserve_kept-in-Child.ensures.room)

pub returns-in_ok-reserve_kept-in-Child-clause-rooms : goal.returns-in_ok-reserve_kept-in-Child-clause-rooms
returns-in_ok-reserve_kept-in-Child-clause-rooms c =
    rooms_kept c.args.self.now _ c.in-Child.node c.index_mut-then-node-len-2.result.now c.reserve_kept.new.self refl refl c.index_mut-then-node-len-2.ensures.value
    (keeps_kept c.index_mut-then-node-len-2.result.now c.reserve_kept.new.self c.reserve_kept.ensures.waiting c.reserve_kept.ensures.rooms c.reserve_kept.ensures.same)

pub returns-else-node-len-2-clause-room : goal.returns-else-node-len-2-clause-room
returns-else-node-len-2-clause-room c =
    room_at_child c.args.goes c.args.n c.in-Child.node c.in-Child.child _ c.in-Child.is
    (at_past (KeptRoom c.in-Child.child c.args.n) c.args.self.now.nodes.items c.in-Child.node (search (rules, arith)))
