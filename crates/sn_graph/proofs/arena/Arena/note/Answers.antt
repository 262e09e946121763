use Rattle.std.proofs.Common.{sym, subst, ap, ℕ}
use Rattle.sn_view.specs.Calls.{Flies}
use Rattle.sn_graph.specs.Arena.{view_of}
use Rattle.sn_graph.specs.Event.{happening_of}
use Rattle.sn_graph.specs.Listed.{IsNoted}
use Rattle.sn_graph.specs.declared.event.Event.{Event}
use Rattle.sn_graph.proofs.Noting.{finish_noted}
use Rattle.sn_graph.proofs.arena.Arena.note.Goals as goal

pub returns-in-Finish-clause-noted : goal.returns-in-Finish-clause-noted
returns-in-Finish-clause-noted c =
    let new = c.list_called.new.self in
    subst (λ (e : Event). IsNoted (happening_of e) new) (sym c.in-Finish.is)
    (finish_noted new c.in-Finish.done.job (λ j given flies. c.list_called.ensures.listed j given (subst (λ (k : ℕ). Flies (view_of new) j k given) (ap (λ job. job.call) (sym c.job.ensures)) flies)))
