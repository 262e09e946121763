use Rattle.std.proofs.Common.{rules, refl, ap, ◌∙◌}
use Rattle.sn_node.specs.Seen.{node_of}
use Rattle.sn_graph.specs.Arena.{view_of}
use Rattle.sn_graph.proofs.Changes.{on_err, unchanged}
use Rattle.sn_graph.proofs.Here.{of_set, still_within}
use Rattle.sn_graph.proofs.Reserving.{WaitsRoom, at_other}
use Rattle.sn_graph.proofs.Freely.{few_node, is_free_node, item_more, item_past, no_marks, nothing_past}
use Rattle.sn_graph.proofs.Turning.{way_elsewhere, way_within}
use Rattle.sn_graph.proofs.arena.Arena.route_past.Goals as goal

pub index_mut-requires : goal.index_mut-requires
index_mut-requires c =
    let inside = still_within c.args.self.now c.reserve_way.new.self c.args.i c.reserve_way.ensures.view (way_within c.args.self.now c.args.i c.args.way c.requires.goes) in
    search (rules, inside)

pub route_free-requires-clause-free : goal.route_free-requires-clause-free
route_free-requires-clause-free c =
    let inside = still_within c.args.self.now c.reserve_way.new.self c.args.i c.reserve_way.ensures.view (way_within c.args.self.now c.args.i c.args.way c.requires.goes) in
    is_free_node c.args.self.now c.reserve_way.new.self c.args.i c.args.way c.requires.goes c.index_mut.result.now c.index_mut.result.now c.reserve_way.ensures.view inside c.index_mut.ensures.value c.requires.free

pub route_free-requires-clause-few : goal.route_free-requires-clause-few
route_free-requires-clause-few c =
    let inside = still_within c.args.self.now c.reserve_way.new.self c.args.i c.reserve_way.ensures.view (way_within c.args.self.now c.args.i c.args.way c.requires.goes) in
    few_node c.args.self.now c.reserve_way.new.self c.args.i c.args.way c.requires.goes c.index_mut.result.now c.index_mut.result.now c.reserve_way.ensures.view inside c.index_mut.ensures.value c.requires.few

pub returns-in_err-route_free-clause-err : goal.returns-in_err-route_free-clause-err
returns-in_err-route_free-clause-err c =
    let inside = still_within c.args.self.now c.reserve_way.new.self c.args.i c.reserve_way.ensures.view (way_within c.args.self.now c.args.i c.args.way c.requires.goes) in
    on_err c.from_residual-in_err-route_free.result
    (ap (λ ns. record (view_of c.reserve_way.new.self) { nodes = ns })
    (unchanged node_of c.reserve_way.new.self.nodes.items c.args.i c.index_mut.result.now c.route_free.new.self c.index_mut.ensures.value c.in_err-route_free.ensures.err)
    ∙ c.reserve_way.ensures.view)

pub returns-in_err-route_free-clause-of : goal.returns-in_err-route_free-clause-of
returns-in_err-route_free-clause-of c =
    let inside = still_within c.args.self.now c.reserve_way.new.self c.args.i c.reserve_way.ensures.view (way_within c.args.self.now c.args.i c.args.way c.requires.goes) in
    λ run is. of_set c.reserve_way.new.self _ run c.args.i c.index_mut.result.now c.route_free.new.self refl refl inside c.index_mut.ensures.value c.route_free.ensures.made (c.reserve_way.ensures.of run is)

pub send-requires : goal.send-requires
send-requires c =
    let inside = still_within c.args.self.now c.reserve_way.new.self c.args.i c.reserve_way.ensures.view (way_within c.args.self.now c.args.i c.args.way c.requires.goes) in
    let more = item_more c.args.self.now c.reserve_way.new.self c.args.i c.args.way c.requires.goes c.index_mut.result.now c.route_free.new.self c.reserve_way.ensures.view inside c.index_mut.ensures.value
    c.in_ok-route_free.field-0 c.requires.own c.requires.free c.requires.routed c.in_ok-route_free.ensures.ok c.in-Item.item c.in-Item.is in
    at_other (WaitsRoom 1) c.reserve_way.new.self.nodes.items c.args.i c.args.way.entry c.route_free.new.self
    (way_elsewhere (view_of c.args.self.now) c.args.i c.args.way c.requires.goes more c.requires.doors) (c.in_ok-reserve_way.ensures.room more)

pub unreachable-requires : goal.unreachable-requires
unreachable-requires c =
    let inside = still_within c.args.self.now c.reserve_way.new.self c.args.i c.reserve_way.ensures.view (way_within c.args.self.now c.args.i c.args.way c.requires.goes) in
    no_marks c.args.self.now c.reserve_way.new.self c.args.i c.args.way c.requires.goes c.index_mut.result.now c.route_free.new.self c.reserve_way.ensures.view inside c.index_mut.ensures.value
    c.in_ok-route_free.field-0 c.requires.own c.requires.free c.requires.routed c.in_ok-route_free.ensures.ok c.in-Marks.is c.requires.no_mark

pub returns-in-Nothing-clause-after : goal.returns-in-Nothing-clause-after
returns-in-Nothing-clause-after c =
    let inside = still_within c.args.self.now c.reserve_way.new.self c.args.i c.reserve_way.ensures.view (way_within c.args.self.now c.args.i c.args.way c.requires.goes) in
    nothing_past c.args.self.now c.reserve_way.new.self c.args.i c.args.way c.requires.goes c.index_mut.result.now c.route_free.new.self c.reserve_way.ensures.view inside c.index_mut.ensures.value
    c.in_ok-route_free.field-0 c.requires.own c.requires.free c.requires.routed c.in_ok-route_free.ensures.ok c.in-Nothing.is

pub returns-in-Nothing-clause-of : goal.returns-in-Nothing-clause-of
returns-in-Nothing-clause-of c =
    let inside = still_within c.args.self.now c.reserve_way.new.self c.args.i c.reserve_way.ensures.view (way_within c.args.self.now c.args.i c.args.way c.requires.goes) in
    λ run is. of_set c.reserve_way.new.self _ run c.args.i c.index_mut.result.now c.route_free.new.self refl refl inside c.index_mut.ensures.value c.route_free.ensures.made (c.reserve_way.ensures.of run is)

pub returns-in-Item-clause-after : goal.returns-in-Item-clause-after
returns-in-Item-clause-after c =
    let inside = still_within c.args.self.now c.reserve_way.new.self c.args.i c.reserve_way.ensures.view (way_within c.args.self.now c.args.i c.args.way c.requires.goes) in
    c.send.ensures.view ∙ item_past c.args.self.now c.reserve_way.new.self c.args.i c.args.way c.requires.goes c.index_mut.result.now c.route_free.new.self c.reserve_way.ensures.view inside c.index_mut.ensures.value
    c.in_ok-route_free.field-0 c.requires.own c.requires.free c.requires.routed c.in_ok-route_free.ensures.ok c.in-Item.item c.in-Item.is

pub returns-in-Item-clause-of : goal.returns-in-Item-clause-of
returns-in-Item-clause-of c =
    let inside = still_within c.args.self.now c.reserve_way.new.self c.args.i c.reserve_way.ensures.view (way_within c.args.self.now c.args.i c.args.way c.requires.goes) in
    λ run is. c.send.ensures.of run (of_set c.reserve_way.new.self _ run c.args.i c.index_mut.result.now c.route_free.new.self refl refl inside c.index_mut.ensures.value c.route_free.ensures.made (c.reserve_way.ensures.of run is))
