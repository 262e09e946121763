use Rattle.std.proofs.Common.{◌<◌, length, rules, arith, ap, ◌∙◌}
use Rattle.sn_view.specs.Next.{node_at}
use Rattle.sn_node.specs.Seen.{node_of}
use Rattle.sn_graph.proofs.Agendas.{only_noted, only_then, only_view}
use Rattle.sn_graph.proofs.Here.{here}
use Rattle.sn_graph.proofs.Noting.{local_noted, merge_noted}
use Rattle.sn_graph.proofs.arena.Arena.list_sent.Goals as goal

pub returns-clause-local : goal.returns-clause-local
returns-clause-local c =
    let old = c.args.self.now in
    let new = c.list_target.new.self in
    let inside : c.args.i < length old.nodes.items = search (rules, arith) in
    let only = only_then old c.list.new.self new c.list.ensures.only c.list_target.ensures.only in
    local_noted new c.args.i (node_of c.index.result.now) (ap (node_at c.args.i) (only_view old new only) ∙ here old c.args.i c.index.result.now inside c.index.ensures)
    (only_noted c.list.new.self new c.list_target.ensures.only c.args.i c.list.ensures.listed) c.list_target.ensures.listed

pub returns-clause-merge : goal.returns-clause-merge
returns-clause-merge c =
    let old = c.args.self.now in
    let new = c.list_target.new.self in
    let inside : c.args.i < length old.nodes.items = search (rules, arith) in
    let only = only_then old c.list.new.self new c.list.ensures.only c.list_target.ensures.only in
    merge_noted new c.args.i (node_of c.index.result.now) (ap (node_at c.args.i) (only_view old new only) ∙ here old c.args.i c.index.result.now inside c.index.ensures)
    (only_noted c.list.new.self new c.list_target.ensures.only c.args.i c.list.ensures.listed) c.list_target.ensures.listed
