use Rattle.std.proofs.Common.{get_or, refl, ap, ◌∙◌}
use Rattle.std.proofs.lemmas.List.{get_or_default}
use Rattle.sn_graph.specs.Arena.{view_of}
use Rattle.sn_graph.specs.Broadcast.{marked_all}
use Rattle.sn_graph.proofs.Marking.{sent_more, take_whole}
use Rattle.sn_graph.proofs.Reserving.{quiet_twice}
use Rattle.sn_graph.proofs.arena.Arena.send_marks.Goals as goal

pub loop-k-init : goal.loop-k-init
loop-k-init c = record { view = refl; of = λ run is. is; quiet = record { places = refl; agenda = refl } }

pub loop-k-preserved : goal.loop-k-preserved
loop-k-preserved c =
    let k = c.loop-k.k in
    let entries = c.args.entries.now in
    sent_more entries k (get_or entries k 0) c.args.self.now c.loop-k.self c.send_mark.new.self c.loop-k-test.true
    (get_or_default entries k 0 (get_or entries k 0) c.loop-k-test.true) c.loop-k.invariant c.in_default.ensures.ok c.send_mark.ensures.of c.send_mark.ensures.quiet

pub returns-in-Err-clause-err : goal.returns-in-Err-clause-err
returns-in-Err-clause-err c = c.unsend_marks.ensures.view (view_of c.args.self.now) (c.in-Err.ensures.err ∙ c.loop-k.invariant.view)

pub returns-in-Err-clause-of : goal.returns-in-Err-clause-of
returns-in-Err-clause-of c = λ run is. c.unsend_marks.ensures.of run (c.send_mark.ensures.of run (c.loop-k.invariant.of run is))

pub returns-in-Err-clause-quiet : goal.returns-in-Err-clause-quiet
returns-in-Err-clause-quiet c =
    quiet_twice c.args.self.now c.loop-k.self c.unsend_marks.new.self c.loop-k.invariant.quiet (quiet_twice c.loop-k.self c.send_mark.new.self c.unsend_marks.new.self c.send_mark.ensures.quiet c.unsend_marks.ensures.quiet)

pub returns-clause-ok : goal.returns-clause-ok
returns-clause-ok c =
    c.loop-k.invariant.view ∙ ap (λ es. marked_all es (view_of c.args.self.now)) (take_whole c.args.entries.now c.loop-k.k c.loop-k-test.false)

pub returns-clause-of : goal.returns-clause-of
returns-clause-of c = λ run is. c.loop-k.invariant.of run is

pub returns-clause-quiet : goal.returns-clause-quiet
returns-clause-quiet c = c.loop-k.invariant.quiet
