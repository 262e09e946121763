use Rattle.sn_typing.proofs.Unbound.{same_net}
use Rattle.sn_typing.proofs.UnboundClaims.{accepted_unbound}
use Rattle.sn_typing.proofs.laws.without_binding_tags.Goals as goal

pub returns-clause-flows : goal.returns-clause-flows
returns-clause-flows c = λ net v u names none. ((same_net net names v none).there u, (same_net net names v none).back u)

pub returns-clause-safe : goal.returns-clause-safe
returns-clause-safe c = λ net v names none. (same_net net names v none).safe

pub returns-clause-accepted : goal.returns-clause-accepted
returns-clause-accepted c = accepted_unbound
