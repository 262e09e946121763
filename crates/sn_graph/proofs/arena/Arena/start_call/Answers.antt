use Rattle.std.proofs.Common.{arith, refl, rules}
use Rattle.std.proofs.lemmas.Result.{IfOk-from_err}
use Rattle.sn_graph.proofs.Changes.{on_err}
use Rattle.sn_graph.proofs.Here.{of_set}
use Rattle.sn_graph.proofs.Jobs.{next_job}
use Rattle.sn_graph.proofs.Starting.{flies_started, form_read, next_read, nodes_started, none_elsewhere, none_past, none_waits, starts_call}
use Rattle.sn_graph.proofs.Tabling.{tabled_same, tabled_started}
use Rattle.sn_graph.proofs.arena.Arena.start_call.Goals as goal

pub returns-in_err-insert-clause-tabled : goal.returns-in_err-insert-clause-tabled
returns-in_err-insert-clause-tabled c = tabled_same c.args.self.now _ c.in_err-insert.ensures.err refl c.requires.tabled

pub begin-requires : goal.begin-requires
begin-requires c = (
  c.in-Some-2.given,
  next_read c.args.self.now.nodes.items c.args.i c.in-Some-2.p c.in-Some-2.given c.index-2.result.now c.index_mut.result.now (search (rules, arith)) c.index-2.ensures c.index_mut.ensures.value
      (rw c.in-Some-2.is at c.in_ok-p.ensures),
)

pub returns-clause-starts : goal.returns-clause-starts
returns-clause-starts c =
    let nodes = c.args.self.now.nodes.items in
    let a = c.index_mut.result.now in
    let next = next_read nodes c.args.i c.in-Some-2.p c.in-Some-2.given c.index-2.result.now a (search (rules, arith)) c.index-2.ensures c.index_mut.ensures.value (rw c.in-Some-2.is at c.in_ok-p.ensures) in
    let form = form_read nodes c.args.i c.in-Some.place c.in-Some.number c.args.run.now c.net.result.now c.as_slice.result.now c.index.result.now a (search (rules, arith)) c.index.ensures c.index_mut.ensures.value
    c.net.ensures.net c.as_slice.ensures c.in-Some.ensures in
    starts_call c.args.self.now c.args.run.now c.requires.of.made c.args.i a c.begin.new.self (search (rules, arith)) c.index_mut.ensures.value c.in-Some.place c.in-Some.number form c.in-Some-2.given
    (c.begin.ensures.begun c.in-Some-2.given next)

pub returns-clause-job : goal.returns-clause-job
returns-clause-job c =
    let nodes = c.args.self.now.nodes.items in
    let a = c.index_mut.result.now in
    let next = next_read nodes c.args.i c.in-Some-2.p c.in-Some-2.given c.index-2.result.now a (search (rules, arith)) c.index-2.ensures c.index_mut.ensures.value (rw c.in-Some-2.is at c.in_ok-p.ensures) in
    let form = form_read nodes c.args.i c.in-Some.place c.in-Some.number c.args.run.now c.net.result.now c.as_slice.result.now c.index.result.now a (search (rules, arith)) c.index.ensures c.index_mut.ensures.value
    c.net.ensures.net c.as_slice.ensures c.in-Some.ensures in
    next_job c.args.self.now c.args.run.now c.args.i c.in-Some-2.p a _ c.requires.of.made c.requires.fed (search (rules, arith)) c.index_mut.ensures.value form next

pub returns-clause-tabled : goal.returns-clause-tabled
returns-clause-tabled c =
    let nodes = c.args.self.now.nodes.items in
    let a = c.index_mut.result.now in
    let next = next_read nodes c.args.i c.in-Some-2.p c.in-Some-2.given c.index-2.result.now a (search (rules, arith)) c.index-2.ensures c.index_mut.ensures.value (rw c.in-Some-2.is at c.in_ok-p.ensures) in
    let form = form_read nodes c.args.i c.in-Some.place c.in-Some.number c.args.run.now c.net.result.now c.as_slice.result.now c.index.result.now a (search (rules, arith)) c.index.ensures c.index_mut.ensures.value
    c.net.ensures.net c.as_slice.ensures c.in-Some.ensures in
    let begun = c.begin.ensures.begun c.in-Some-2.given next in
    tabled_started c.args.self.now _ c.args.i c.ticket-ticket.result c.in_ok-insert.ensures.updates.0
    (nodes_started c.args.self.now c.args.run.now c.requires.of.made c.args.i a c.begin.new.self (search (rules, arith)) c.index_mut.ensures.value c.in-Some.place c.in-Some.number form c.in-Some-2.given begun)
    c.in-Some-2.given
    (flies_started c.args.self.now c.args.run.now c.requires.of.made c.args.i a c.begin.new.self (search (rules, arith)) c.index_mut.ensures.value c.in-Some.place c.in-Some.number form c.in-Some-2.given begun)
    c.requires.below c.requires.tabled

pub returns-then-i-len-clause-starts : goal.returns-then-i-len-clause-starts
returns-then-i-len-clause-starts c = none_past c.args.self.now c.args.i (search (rules, arith))

pub returns-then-i-len-clause-job : goal.returns-then-i-len-clause-job
returns-then-i-len-clause-job c = tt

pub returns-then-i-len-clause-same : goal.returns-then-i-len-clause-same
returns-then-i-len-clause-same c = tt

pub returns-then-i-len-clause-tabled : goal.returns-then-i-len-clause-tabled
returns-then-i-len-clause-tabled c = c.requires.tabled

pub returns-then-i-len-clause-of : goal.returns-then-i-len-clause-of
returns-then-i-len-clause-of c = c.requires.of

pub returns-then-i-len-clause-agenda : goal.returns-then-i-len-clause-agenda
returns-then-i-len-clause-agenda c = refl

pub returns-in_default-clause-starts : goal.returns-in_default-clause-starts
returns-in_default-clause-starts c = none_elsewhere c.args.self.now c.args.run.now c.requires.of.made c.args.i c.index.result.now (search (rules, arith)) c.index.ensures c.net.result.now c.as_slice.result.now
    c.net.ensures.net c.as_slice.ensures c.in_default.ensures

pub returns-in_default-clause-job : goal.returns-in_default-clause-job
returns-in_default-clause-job c = tt

pub returns-in_default-clause-same : goal.returns-in_default-clause-same
returns-in_default-clause-same c = tt

pub returns-in_default-clause-tabled : goal.returns-in_default-clause-tabled
returns-in_default-clause-tabled c = c.requires.tabled

pub returns-in_default-clause-of : goal.returns-in_default-clause-of
returns-in_default-clause-of c = c.requires.of

pub returns-in_default-clause-agenda : goal.returns-in_default-clause-agenda
returns-in_default-clause-agenda c = refl

pub returns-in_default-2-clause-starts : goal.returns-in_default-2-clause-starts
returns-in_default-2-clause-starts c = none_waits c.args.self.now c.args.run.now c.requires.of.made c.args.i c.index-2.result.now (search (rules, arith)) c.index-2.ensures (rw c.in_default-2.is at c.in_ok-p.ensures)

pub returns-in_default-2-clause-job : goal.returns-in_default-2-clause-job
returns-in_default-2-clause-job c = tt

pub returns-in_default-2-clause-same : goal.returns-in_default-2-clause-same
returns-in_default-2-clause-same c = tt

pub returns-in_default-2-clause-tabled : goal.returns-in_default-2-clause-tabled
returns-in_default-2-clause-tabled c = c.requires.tabled

pub returns-in_default-2-clause-of : goal.returns-in_default-2-clause-of
returns-in_default-2-clause-of c = c.requires.of

pub returns-in_default-2-clause-agenda : goal.returns-in_default-2-clause-agenda
returns-in_default-2-clause-agenda c = refl

pub returns-in_err-p-clause-starts : goal.returns-in_err-p-clause-starts
returns-in_err-p-clause-starts c = IfOk-from_err c.from_residual.result _ c.from_residual.ensures.0

pub returns-in_err-p-clause-job : goal.returns-in_err-p-clause-job
returns-in_err-p-clause-job c = IfOk-from_err c.from_residual.result _ c.from_residual.ensures.0

pub returns-in_err-p-clause-same : goal.returns-in_err-p-clause-same
returns-in_err-p-clause-same c = on_err c.from_residual.result refl

pub returns-in_err-p-clause-tabled : goal.returns-in_err-p-clause-tabled
returns-in_err-p-clause-tabled c = c.requires.tabled

pub returns-in_err-p-clause-of : goal.returns-in_err-p-clause-of
returns-in_err-p-clause-of c = c.requires.of

pub returns-in_err-p-clause-agenda : goal.returns-in_err-p-clause-agenda
returns-in_err-p-clause-agenda c = refl

pub returns-in_err-insert-clause-starts : goal.returns-in_err-insert-clause-starts
returns-in_err-insert-clause-starts c = IfOk-from_err c.from_residual-in_err-insert.result _ c.from_residual-in_err-insert.ensures.0

pub returns-in_err-insert-clause-job : goal.returns-in_err-insert-clause-job
returns-in_err-insert-clause-job c = IfOk-from_err c.from_residual-in_err-insert.result _ c.from_residual-in_err-insert.ensures.0

pub returns-in_err-insert-clause-same : goal.returns-in_err-insert-clause-same
returns-in_err-insert-clause-same c = on_err c.from_residual-in_err-insert.result refl

pub returns-in_err-insert-clause-of : goal.returns-in_err-insert-clause-of
returns-in_err-insert-clause-of c = record { made = c.requires.of.made; nodes = c.requires.of.nodes }

pub returns-in_err-insert-clause-agenda : goal.returns-in_err-insert-clause-agenda
returns-in_err-insert-clause-agenda c = refl

pub returns-clause-same : goal.returns-clause-same
returns-clause-same c = tt

pub returns-clause-of : goal.returns-clause-of
returns-clause-of c = of_set c.args.self.now _ c.args.run.now c.args.i c.index_mut.result.now c.begin.new.self refl refl (search (rules, arith)) c.index_mut.ensures.value c.begin.ensures.made c.requires.of

pub returns-clause-agenda : goal.returns-clause-agenda
returns-clause-agenda c = refl
