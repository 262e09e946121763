use Rattle.sn_routed.proofs.Coming.{answered_after}
use Rattle.sn_routed.proofs.laws.what_comes_has_a_route.Goals as goal

pub returns : goal.returns
returns c = answered_after
