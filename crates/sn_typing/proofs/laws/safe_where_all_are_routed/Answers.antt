use Rattle.sn_typing.proofs.Routes.{reached_routed, routed_safe}
use Rattle.sn_typing.proofs.laws.safe_where_all_are_routed.Goals as goal

pub returns : goal.returns
returns c = λ net v. ((λ safe way part u reached. reached_routed net v way part u safe reached), (λ routed. routed_safe net v routed))
