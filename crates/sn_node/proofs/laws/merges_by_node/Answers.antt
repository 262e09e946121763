use Rattle.sn_node.proofs.Merging.{merge_enabled, merge_after}
use Rattle.sn_node.proofs.laws.merges_by_node.Goals as goal

pub returns : goal.returns
returns c = record {
  enabled = λ i n g c here. merge_enabled i n g here c;
  after = λ i n g c m here is. merge_after i n g here c m is;
}
