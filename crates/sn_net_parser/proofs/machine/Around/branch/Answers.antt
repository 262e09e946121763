use Rattle.std.proofs.Common.{◌≡◌, false, true, refl}
use Rattle.sn_net_parser.proofs.Steps.{branch_from, branch_to}
use Rattle.sn_net_parser.proofs.machine.Around.branch.Goals as goal

pub returns-then-not-goes_on : goal.returns-then-not-goes_on
returns-then-not-goes_on c = λ w t d. let e : false ≡ true = c.if-not-goes_on.ensures.1 (branch_from c.requires d).0 in cc

pub returns : goal.returns
returns c = λ w t. rw c.in_ok-level.ensures (λ d. (branch_from c.requires d).1, branch_to c.requires (c.if-not-goes_on.ensures.0 refl))
