use Rattle.std.proofs.Common.{rules, take, refl, sym, ap, ◌∙◌, arith}
use Rattle.sn_node.specs.Seen.{node_of}
use Rattle.sn_graph.specs.Arena.{view_of}
use Rattle.sn_graph.specs.Broadcast.{marked_all}
use Rattle.sn_graph.proofs.Changes.{unchanged}
use Rattle.sn_graph.proofs.Here.{of_set}
use Rattle.sn_graph.proofs.Marking.{take_whole}
use Rattle.sn_graph.proofs.MarkedAll.{few_marked, is_free_marked, mark_after, marked_within}
use Rattle.sn_graph.proofs.Turning.{way_within}
use Rattle.sn_graph.proofs.arena.Arena.route_mark.Goals as goal

pub index_mut-requires : goal.index_mut-requires
index_mut-requires c =
    let inside =
    marked_within c.args.self.now c.send_marks.new.self c.args.i c.args.way c.requires.goes c.as_slice.result.now c.index.result.now
    (way_within c.args.self.now c.args.i c.args.way c.requires.goes) c.index.ensures (c.as_slice.ensures.value ∙ c.in_ok-entries.ensures) c.in_ok-send_marks.ensures.ok c.requires.doors in
    search (rules, inside)

pub route_free-requires-clause-free : goal.route_free-requires-clause-free
route_free-requires-clause-free c =
    is_free_marked c.args.self.now c.send_marks.new.self c.args.i c.args.way c.requires.goes c.as_slice.result.now c.index.result.now
    (way_within c.args.self.now c.args.i c.args.way c.requires.goes) c.index.ensures (c.as_slice.ensures.value ∙ c.in_ok-entries.ensures) c.in_ok-send_marks.ensures.ok c.requires.doors
    c.index_mut.result.now c.index_mut.ensures.value c.requires.free

pub route_free-requires-clause-few : goal.route_free-requires-clause-few
route_free-requires-clause-few c =
    few_marked c.args.self.now c.send_marks.new.self c.args.i c.args.way c.requires.goes c.as_slice.result.now c.index.result.now
    (way_within c.args.self.now c.args.i c.args.way c.requires.goes) c.index.ensures (c.as_slice.ensures.value ∙ c.in_ok-entries.ensures) c.in_ok-send_marks.ensures.ok c.requires.doors
    c.index_mut.result.now c.index_mut.ensures.value c.requires.few

pub returns-in-Ok-clause-after : goal.returns-in-Ok-clause-after
returns-in-Ok-clause-after c =
    mark_after c.args.self.now c.send_marks.new.self c.args.i c.args.way c.requires.goes c.as_slice.result.now c.index.result.now
    (way_within c.args.self.now c.args.i c.args.way c.requires.goes) c.index.ensures (c.as_slice.ensures.value ∙ c.in_ok-entries.ensures) c.in_ok-send_marks.ensures.ok c.requires.doors
    c.index_mut.result.now c.index_mut.ensures.value c.route_free.new.self c.in-Ok._sent c.requires.own c.requires.free c.requires.routed c.requires.mark c.in-Ok.ensures.ok

pub returns-clause-err : goal.returns-clause-err
returns-clause-err c =
    let entries = c.in_ok-entries.entries.items in
    c.unsend_marks.ensures.view (view_of c.args.self.now)
    (ap (λ ns. record (view_of c.send_marks.new.self) { nodes = ns })
    (unchanged node_of c.send_marks.new.self.nodes.items c.args.i c.index_mut.result.now c.route_free.new.self c.index_mut.ensures.value c.in-Err.ensures.err)
    ∙ c.in_ok-send_marks.ensures.ok
    ∙ ap (λ es. marked_all es (view_of c.args.self.now)) (c.as_slice.ensures.value ∙ sym (take_whole entries c.len.result (omega (arith, c.len.ensures)))
    ∙ ap (λ es. take c.len.result es) (sym c.as_slice-in-Err.ensures.value)))

pub returns-clause-of : goal.returns-clause-of
returns-clause-of c = λ run is.
    let inside =
    marked_within c.args.self.now c.send_marks.new.self c.args.i c.args.way c.requires.goes c.as_slice.result.now c.index.result.now
    (way_within c.args.self.now c.args.i c.args.way c.requires.goes) c.index.ensures (c.as_slice.ensures.value ∙ c.in_ok-entries.ensures) c.in_ok-send_marks.ensures.ok c.requires.doors in
    c.unsend_marks.ensures.of run
    (of_set c.send_marks.new.self _ run c.args.i c.index_mut.result.now c.route_free.new.self refl refl inside c.index_mut.ensures.value c.route_free.ensures.made (c.send_marks.ensures.of run is))
