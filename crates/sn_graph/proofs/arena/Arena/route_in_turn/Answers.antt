use Rattle.std.proofs.Common.{rules, refl, ap, ◌∙◌}
use Rattle.std.specs.Option.{option_map}
use Rattle.sn_net.specs.Item.{modelled}
use Rattle.sn_node.specs.Seen.{node_of}
use Rattle.sn_graph.specs.Arena.{view_of}
use Rattle.sn_graph.proofs.Changes.{on_err, unchanged}
use Rattle.sn_graph.proofs.Here.{of_set, still_within}
use Rattle.sn_graph.proofs.Reserving.{WaitsRoom, at_other}
use Rattle.sn_graph.proofs.Turning.{is_turn, none_after, some_after, some_more, way_elsewhere, way_enabled, way_within}
use Rattle.sn_graph.proofs.arena.Arena.route_in_turn.Goals as goal

pub index_mut-requires : goal.index_mut-requires
index_mut-requires c =
    let inside = still_within c.args.self.now c.reserve_way.new.self c.args.i c.reserve_way.ensures.view (way_within c.args.self.now c.args.i c.in-Some.way c.in-Some.ensures) in
    search (rules, inside)

pub route_in_turn-requires : goal.route_in_turn-requires
route_in_turn-requires c =
    let inside = still_within c.args.self.now c.reserve_way.new.self c.args.i c.reserve_way.ensures.view (way_within c.args.self.now c.args.i c.in-Some.way c.in-Some.ensures) in
    is_turn c.args.self.now c.reserve_way.new.self c.args.i c.in-Some.way c.in-Some.ensures c.index_mut.result.now c.index_mut.result.now c.reserve_way.ensures.view inside c.index_mut.ensures.value c.requires.in_turn

pub returns-in_err-item-clause-err : goal.returns-in_err-item-clause-err
returns-in_err-item-clause-err c =
    on_err c.from_residual-in_err-item.result
    (ap (λ ns. record (view_of c.reserve_way.new.self) { nodes = ns })
    (unchanged node_of c.reserve_way.new.self.nodes.items c.args.i c.index_mut.result.now c.route_in_turn.new.self c.index_mut.ensures.value c.in_err-item.ensures.err)
    ∙ c.reserve_way.ensures.view)

pub returns-in_err-item-clause-of : goal.returns-in_err-item-clause-of
returns-in_err-item-clause-of c =
    let inside = still_within c.args.self.now c.reserve_way.new.self c.args.i c.reserve_way.ensures.view (way_within c.args.self.now c.args.i c.in-Some.way c.in-Some.ensures) in
    of_set c.reserve_way.new.self _ c.args.run.now c.args.i c.index_mut.result.now c.route_in_turn.new.self refl refl inside c.index_mut.ensures.value c.route_in_turn.ensures.made
    (c.reserve_way.ensures.of c.args.run.now (record { made = c.requires.of.made; nodes = c.requires.of.nodes }))

pub send_group-requires : goal.send_group-requires
send_group-requires c =
    let inside = still_within c.args.self.now c.reserve_way.new.self c.args.i c.reserve_way.ensures.view (way_within c.args.self.now c.args.i c.in-Some.way c.in-Some.ensures) in
    let more =
    some_more c.args.self.now c.reserve_way.new.self c.args.i c.in-Some.way c.in-Some.ensures c.index_mut.result.now c.route_in_turn.new.self c.reserve_way.ensures.view inside c.index_mut.ensures.value
    (option_map modelled c.in_ok-item.field-0) c.requires.own c.requires.routed c.in_ok-item.ensures.ok (modelled c.in-Some-2.item) (ap (option_map modelled) c.in-Some-2.is) in
    at_other (WaitsRoom 2) c.reserve_way.new.self.nodes.items c.args.i c.in-Some.way.entry c.route_in_turn.new.self
    (way_elsewhere (view_of c.args.self.now) c.args.i c.in-Some.way c.in-Some.ensures more c.requires.doors) (c.in_ok-reserve_way.ensures.room more)

pub returns-clause-enabled : goal.returns-clause-enabled
returns-clause-enabled c = way_enabled (view_of c.args.self.now) c.args.i c.in-Some.way c.in-Some.ensures

pub returns-clause-after : goal.returns-clause-after
returns-clause-after c =
    let inside = still_within c.args.self.now c.reserve_way.new.self c.args.i c.reserve_way.ensures.view (way_within c.args.self.now c.args.i c.in-Some.way c.in-Some.ensures) in
    c.send_group.ensures.view
    ∙ some_after c.args.self.now c.reserve_way.new.self c.args.i c.in-Some.way c.in-Some.ensures c.index_mut.result.now c.route_in_turn.new.self c.reserve_way.ensures.view inside c.index_mut.ensures.value
    (option_map modelled c.in_ok-item.field-0) c.requires.own c.requires.routed c.in_ok-item.ensures.ok (modelled c.in-Some-2.item) (ap (option_map modelled) c.in-Some-2.is)

pub returns-clause-of : goal.returns-clause-of
returns-clause-of c =
    let inside = still_within c.args.self.now c.reserve_way.new.self c.args.i c.reserve_way.ensures.view (way_within c.args.self.now c.args.i c.in-Some.way c.in-Some.ensures) in
    c.send_group.ensures.of c.args.run.now
    (of_set c.reserve_way.new.self _ c.args.run.now c.args.i c.index_mut.result.now c.route_in_turn.new.self refl refl inside c.index_mut.ensures.value c.route_in_turn.ensures.made
    (c.reserve_way.ensures.of c.args.run.now (record { made = c.requires.of.made; nodes = c.requires.of.nodes })))

pub returns-in_default-2-clause-enabled : goal.returns-in_default-2-clause-enabled
returns-in_default-2-clause-enabled c = way_enabled (view_of c.args.self.now) c.args.i c.in-Some.way c.in-Some.ensures

pub returns-in_default-2-clause-after : goal.returns-in_default-2-clause-after
returns-in_default-2-clause-after c =
    let inside = still_within c.args.self.now c.reserve_way.new.self c.args.i c.reserve_way.ensures.view (way_within c.args.self.now c.args.i c.in-Some.way c.in-Some.ensures) in
    none_after c.args.self.now c.reserve_way.new.self c.args.i c.in-Some.way c.in-Some.ensures c.index_mut.result.now c.route_in_turn.new.self c.reserve_way.ensures.view inside c.index_mut.ensures.value
    (option_map modelled c.in_ok-item.field-0) c.requires.own c.requires.routed c.in_ok-item.ensures.ok (ap (option_map modelled) c.in_default-2.is)

pub returns-in_default-2-clause-of : goal.returns-in_default-2-clause-of
returns-in_default-2-clause-of c =
    let inside = still_within c.args.self.now c.reserve_way.new.self c.args.i c.reserve_way.ensures.view (way_within c.args.self.now c.args.i c.in-Some.way c.in-Some.ensures) in
    of_set c.reserve_way.new.self _ c.args.run.now c.args.i c.index_mut.result.now c.route_in_turn.new.self refl refl inside c.index_mut.ensures.value c.route_in_turn.ensures.made
    (c.reserve_way.ensures.of c.args.run.now (record { made = c.requires.of.made; nodes = c.requires.of.nodes }))
