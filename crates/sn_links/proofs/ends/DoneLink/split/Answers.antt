use Rattle.std.proofs.Common.{ap, refl, sym, subst, true, false}
use Rattle.sn_links.specs.Queues.{IsLinkDone}
use Rattle.sn_ruled.proofs.Agrees.{IsShared, shares}
use Rattle.sn_links.proofs.ends.DoneLink.split.Goals as goal

pub another-pass-requires-clause-rule : goal.another-pass-requires-clause-rule
another-pass-requires-clause-rule c = shares IsLinkDone false true _ _ (subst (IsShared IsLinkDone false true) (sym (ap (λ v. v.role) c.self.invariant.1)) refl)
