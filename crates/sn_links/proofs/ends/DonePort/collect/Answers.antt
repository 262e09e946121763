use Rattle.std.proofs.Common.{◌∙◌, ap, subst, sym, true, false}
use Rattle.sn_boxrun.specs.Job.{IsAnswer, IsJobOf}
use Rattle.sn_links.specs.Queues.{IsLinkDone}
use Rattle.sn_links.proofs.Links.{done_answers, done_of_run}
use Rattle.sn_ruled.proofs.Agrees.{moment, pops}
use Rattle.sn_links.proofs.ends.DonePort.collect.Goals as goal

pub pop_as-requires-clause-rule : goal.pop_as-requires-clause-rule
pop_as-requires-clause-rule g c = (pops IsLinkDone false true _ _ _ (ap (λ v. v.role) c.self.invariant.0.1), moment IsLinkDone false true _ _)

pub done_in-requires : goal.done_in-requires
done_in-requires g c = let it = c.in-Some.ensures.rule.1 _ (ap (λ v. v.role) c.self.invariant.0.1) in ((it.job, it.items), it.spells)

pub made-requires-clause-of_run : goal.made-requires-clause-of_run
made-requires-clause-of_run g c =
    let it = c.in-Some.ensures.rule.1 _ (ap (λ v. v.role) c.self.invariant.0.1) in
    subst (λ run. IsJobOf run c.in-Ok.job) (sym (c.in-Ok-shared.ensures.cases ∙ c.self.invariant.1)) (done_of_run _ _ _ it c.in-Ok.ensures.only)

pub made-requires-clause-is_answer : goal.made-requires-clause-is_answer
made-requires-clause-is_answer g c =
    let it = c.in-Some.ensures.rule.1 _ (ap (λ v. v.role) c.self.invariant.0.1) in
    subst (λ run. IsAnswer run c.in-Ok.job c.in-Ok.items) (sym (c.in-Ok-shared.ensures.cases ∙ c.self.invariant.1)) (done_answers _ _ _ it c.in-Ok.ensures.only)
