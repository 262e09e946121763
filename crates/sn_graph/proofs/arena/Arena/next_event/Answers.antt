use Rattle.std.proofs.Common.{sym, ◌∙◌}
use Rattle.sn_graph.specs.Arena.{view_of}
use Rattle.sn_graph.proofs.Nexts.{none_enabled}
use Rattle.sn_graph.proofs.arena.Arena.next_event.Goals as goal

pub returns-clause-none : goal.returns-clause-none
returns-clause-none c =
    none_enabled (view_of c.args.self.now) (sym c.may_take.ensures ∙ c.if-may_take.false) (sym c.may_emit.ensures ∙ c.if-may_emit.false) c.in_default.ensures.none
