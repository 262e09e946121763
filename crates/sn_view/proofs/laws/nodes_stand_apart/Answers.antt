use Rattle.sn_view.proofs.Apart.{distinct-doors, not-at-itself, not-to-itself, not-to-its-child}
use Rattle.sn_view.proofs.laws.nodes_stand_apart.Goals as goal

pub returns : goal.returns
returns c = record {
  sends = λ g i c n placed there. (not-to-itself g placed i n there, not-to-its-child g placed i n there c);
  doors = λ g i c n child placed there e same. not-at-itself g placed i n there c child e same;
  distinct = λ g i c d n left right placed there e u same. distinct-doors g placed i n there c d left right e u same;
}
