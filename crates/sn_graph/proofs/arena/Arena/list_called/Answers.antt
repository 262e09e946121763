use Rattle.std.proofs.Common.{sym}
use Rattle.sn_graph.proofs.Agendas.{only_view}
use Rattle.sn_graph.proofs.Noting.{call_noted, none_noted}
use Rattle.sn_graph.proofs.arena.Arena.list_called.Goals as goal

pub returns-in_default-clause-listed : goal.returns-in_default-clause-listed
returns-in_default-clause-listed c = none_noted c.args.self.now c.args.call c.requires (sym c.in_default.ensures.value)

pub returns-clause-listed : goal.returns-clause-listed
returns-clause-listed c =
    call_noted c.args.self.now c.list.new.self c.args.call c.in-Some.place.now c.requires (only_view c.args.self.now c.list.new.self c.list.ensures.only) (sym c.in-Some.ensures.value) c.list.ensures.listed
