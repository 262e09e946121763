use Rattle.sn_view.proofs.Apart.{entry-there, target-beside, target-child, target-node}
use Rattle.sn_view.proofs.laws.children_have_nodes.Goals as goal

pub returns : goal.returns
returns c = record {
  entry = λ g i c n child placed there e. entry-there g placed i n there c child e;
  to_node = λ g i j n placed there e. target-node g placed i n there j e;
  to_child = λ g i j c n placed there e. target-child g placed i n there j c e;
  not_aside = λ g i j n placed there e. target-beside g placed i n there j e;
}
