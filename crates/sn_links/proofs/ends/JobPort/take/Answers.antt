use Rattle.std.proofs.Common.{ap, subst, true, false}
use Rattle.sn_boxrun.specs.Job.{IsJobOf}
use Rattle.sn_links.specs.Ends.{node_at, placement_of, run_of}
use Rattle.sn_links.specs.Nodes.{IsServed}
use Rattle.sn_links.specs.Queues.{IsLinkJob}
use Rattle.sn_links.proofs.Links.{job_of_run, job_served}
use Rattle.sn_ruled.proofs.Agrees.{moment, pops}
use Rattle.sn_links.proofs.ends.JobPort.take.Goals as goal

pub pop_as-requires-clause-rule : goal.pop_as-requires-clause-rule
pop_as-requires-clause-rule g c = (pops IsLinkJob true false _ _ _ (ap (λ v. v.role) c.self.invariant.1), moment IsLinkJob true false _ _)

pub job_in-requires : goal.job_in-requires
job_in-requires g c = let it = c.in-Some.ensures.rule.1 _ (ap (λ v. v.role) c.self.invariant.1) in (it.job, it.spells)

pub returns-in-Ok-clause-of_run : goal.returns-in-Ok-clause-of_run
returns-in-Ok-clause-of_run g c =
    let it = c.in-Some.ensures.rule.1 _ (ap (λ v. v.role) c.self.invariant.1) in
    subst (λ end. IsJobOf (run_of end) c.in-Ok.job) c.self.view_is (job_of_run _ _ _ it c.in-Ok.ensures.only)

pub returns-in-Ok-clause-served : goal.returns-in-Ok-clause-served
returns-in-Ok-clause-served g c =
    let it = c.in-Some.ensures.rule.1 _ (ap (λ v. v.role) c.self.invariant.1) in
    subst (λ end. IsServed (placement_of end) (node_at end) c.in-Ok.job) c.self.view_is (job_served _ _ _ it c.in-Ok.ensures.only)
