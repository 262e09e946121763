use Rattle.std.proofs.Common.{refl}
use Rattle.sn_graph.proofs.Putting.{puts_one}
use Rattle.sn_graph.proofs.grow.NewNodes.push.Goals as goal

pub returns : goal.returns
returns c = λ run of. puts_one run c.args.self.now _ c.args.node of c.in_ok-push.ensures.items _ refl refl
