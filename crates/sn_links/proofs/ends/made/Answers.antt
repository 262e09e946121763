use Rattle.std.proofs.Common.{true, false}
use Rattle.sn_links.specs.Queues.{IsLinkDone, IsLinkJob}
use Rattle.sn_ruled.proofs.Agrees.{begins, opens}
use Rattle.sn_links.proofs.ends.made.Goals as goal

pub ruled-requires-clause-rule : goal.ruled-requires-clause-rule
ruled-requires-clause-rule g c = begins IsLinkJob true false

pub ruled-requires-2-clause-rule : goal.ruled-requires-2-clause-rule
ruled-requires-2-clause-rule g c = begins IsLinkDone false true

pub another-taking-requires-clause-rule : goal.another-taking-requires-clause-rule
another-taking-requires-clause-rule g c = opens IsLinkJob true false _ _ _ _ c.requires.owner c.in_ok-jobs.ensures.3

pub another-collecting-requires-clause-rule : goal.another-collecting-requires-clause-rule
another-collecting-requires-clause-rule g c = opens IsLinkDone false true _ _ _ _ c.requires.owner c.in_ok-results.ensures.3
