use Rattle.std.proofs.Common.{sym, ◌∙◌}
use Rattle.sn_flow.proofs.claims.routed.Goals as goal

pub returns-in-Some : goal.returns-in-Some
returns-in-Some c = sym c.in_ok-unrouted_spot.ensures ∙ c.in-Some.is

pub returns : goal.returns
returns c = sym c.in_ok-unrouted_spot.ensures ∙ c.in-None.is
