use Rattle.std.proofs.Common.{ap, refl, sym, subst, true, false}
use Rattle.sn_links.specs.Queues.{IsLinkJob}
use Rattle.sn_ruled.proofs.Agrees.{IsShared, shares}
use Rattle.sn_links.proofs.ends.JobPort.split.Goals as goal

pub another-pass-requires-clause-rule : goal.another-pass-requires-clause-rule
another-pass-requires-clause-rule c = shares IsLinkJob true false _ _ (subst (IsShared IsLinkJob true false) (sym (ap (λ v. v.role) c.self.invariant.1)) refl)
