use Rattle.sn_node.proofs.Routing.{route_enabled, route_after}
use Rattle.sn_node.proofs.laws.routes_by_node.Goals as goal

pub returns : goal.returns
returns c = record {
  enabled = λ i n g here. route_enabled i n g here;
  after = λ i n g r here is. route_after i n g here r is;
}
