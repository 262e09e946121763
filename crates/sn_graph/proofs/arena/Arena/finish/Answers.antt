use Rattle.std.proofs.Common.{◌≡◌, ℕ, sym, subst, cond}
use Rattle.std.specs.Prelude.{None, nat_eq}
use Rattle.indexmap.specs.IndexMap.{get}
use Rattle.sn_boxrun.specs.Job.{IsAnswer}
use Rattle.sn_boxrun.specs.declared.job.Job.{Job}
use Rattle.sn_graph.specs.Arena.{view_of}
use Rattle.sn_graph.specs.Started.{IsCallAt}
use Rattle.sn_graph.proofs.Starting.{answers, finishes_call, flies_here, nodes_finished}
use Rattle.sn_graph.proofs.Tabling.{tabled_finished}
use Rattle.sn_graph.proofs.arena.Arena.finish.Goals as goal

pub finish-requires : goal.finish-requires
finish-requires c =
    let arena = c.args.self.now in
    let run = c.args.run.now in
    let job = c.into_parts-job.result.0 in
    let items = c.into_parts-job.result.1 in
    let at : IsCallAt c.in-Some.i c.in-Some.p job (view_of arena) =
    subst (λ (j : Job). IsCallAt c.in-Some.i c.in-Some.p j (view_of arena)) (sym c.into_parts-job.ensures.job)
    (subst (λ (j : Job). IsCallAt c.in-Some.i c.in-Some.p j (view_of arena)) c.job.ensures c.in-Some.ensures.found) in
    let answer : IsAnswer run job items = subst (λ r. IsAnswer r job items) c.requires.run c.into_parts-job.ensures.answer in
    answers arena run c.requires.of job c.in-Some.i c.in-Some.p c.index_mut.result.now c.index_mut.result.now c.index_mut.ensures.value at items answer

pub returns-clause-ok : goal.returns-clause-ok
returns-clause-ok c =
    let arena = c.args.self.now in
    let job = c.args.done.job in
    let a = c.index_mut.result.now in
    let at : IsCallAt c.in-Some.i c.in-Some.p job (view_of arena) = subst (λ (j : Job). IsCallAt c.in-Some.i c.in-Some.p j (view_of arena)) c.job.ensures c.in-Some.ensures.found in
    let flies = flies_here arena c.args.run.now c.requires.of job c.in-Some.i c.in-Some.p a a c.index_mut.ensures.value at in
    finishes_call arena c.args.run.now c.requires.of job c.in-Some.i c.in-Some.p a c.finish.new.self c.index_mut.ensures.value at c.requires.once
    (c.finish.ensures.finished job.call job.given flies)

pub returns-clause-tabled : goal.returns-clause-tabled
returns-clause-tabled c =
    let arena = c.args.self.now in
    let job = c.args.done.job in
    let a = c.index_mut.result.now in
    let at : IsCallAt c.in-Some.i c.in-Some.p job (view_of arena) = subst (λ (j : Job). IsCallAt c.in-Some.i c.in-Some.p j (view_of arena)) c.job.ensures c.in-Some.ensures.found in
    let flies = flies_here arena c.args.run.now c.requires.of job c.in-Some.i c.in-Some.p a a c.index_mut.ensures.value at in
    let updates = subst (λ (j : Job). (k : ℕ) → get nat_eq c.swap_remove-place.new.self k ≡ cond (nat_eq j.call k) None (get nat_eq arena.places k)) c.into_parts-job.ensures.job c.swap_remove-place.ensures.updates.0 in
    tabled_finished arena _ job updates
    (nodes_finished arena c.args.run.now c.requires.of job c.in-Some.i c.in-Some.p a c.finish.new.self c.index_mut.ensures.value at c.requires.once
    (c.finish.ensures.finished job.call job.given flies))
    c.requires.tabled
