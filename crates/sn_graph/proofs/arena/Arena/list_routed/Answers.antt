use Rattle.std.proofs.Common.{sym, subst}
use Rattle.sn_view.specs.View.{View}
use Rattle.sn_graph.specs.Arena.{view_of}
use Rattle.sn_graph.specs.Ways.{Goes}
use Rattle.sn_graph.proofs.Agendas.{only_noted, only_then, only_view}
use Rattle.sn_graph.proofs.Noting.{route_noted}
use Rattle.sn_graph.proofs.arena.Arena.list_routed.Goals as goal

pub returns-then-broadcasts-clause-noted : goal.returns-then-broadcasts-clause-noted
returns-then-broadcasts-clause-noted c =
    let old = c.args.self.now in
    let new = c.list_children.new.self in
    let two = only_then c.list.new.self c.list-2.new.self new c.list-2.ensures.only c.list_children.ensures.only in
    let only = only_then old c.list.new.self new c.list.ensures.only two in
    let goes : Goes (view_of new) c.args.i c.in-Some.way = subst (λ (g : View). Goes g c.args.i c.in-Some.way) (sym (only_view old new only)) c.in-Some.ensures in
    route_noted new c.args.i c.in-Some.way goes (only_noted c.list.new.self new two c.args.i c.list.ensures.listed)
    (only_noted c.list-2.new.self new c.list_children.ensures.only c.in-Some.way.entry c.list-2.ensures.listed)
    (λ is n child at. c.list_children.ensures.listed goes.node n child goes.there at)
