use Rattle.std.proofs.Common.{true, false}
use Rattle.sn_boxrun.specs.Job.{IsJobOf}
use Rattle.sn_jobs.specs.Queues.{IsDoneOf}
use Rattle.sn_ruled.proofs.Agrees.{begins, opens}
use Rattle.sn_jobs.proofs.ends.made.Goals as goal

pub ruled-requires-clause-rule : goal.ruled-requires-clause-rule
ruled-requires-clause-rule g c = begins IsJobOf true false

pub ruled-requires-2-clause-rule : goal.ruled-requires-2-clause-rule
ruled-requires-2-clause-rule g c = begins IsDoneOf false true

pub another-taking-requires-clause-rule : goal.another-taking-requires-clause-rule
another-taking-requires-clause-rule g c = opens IsJobOf true false _ _ _ _ c.requires.run c.in_ok-jobs.ensures.3

pub another-collecting-requires-clause-rule : goal.another-collecting-requires-clause-rule
another-collecting-requires-clause-rule g c = opens IsDoneOf false true _ _ _ _ c.requires.run c.in_ok-results.ensures.3
