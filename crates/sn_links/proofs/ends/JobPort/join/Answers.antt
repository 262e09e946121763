use Rattle.std.proofs.Common.{ap, refl, sym, subst, true, false}
use Rattle.sn_links.specs.Queues.{IsLinkJob}
use Rattle.sn_ruled.proofs.Agrees.{IsShared, joins}
use Rattle.sn_links.proofs.ends.JobPort.join.Goals as goal

pub absorb-requires-clause-rule : goal.absorb-requires-clause-rule
absorb-requires-clause-rule c = joins IsLinkJob true false _ _ _ _ (subst (IsShared IsLinkJob true false) (sym (ap (λ v. v.role) c.self.invariant.1)) refl)
