use Rattle.sn_node.proofs.Answering.{none_answered}
use Rattle.sn_node.proofs.node.Node.alone.Goals as goal

pub invariant_of-result : goal.invariant_of-result
invariant_of-result c = record { answered = none_answered c.args.made.run.value c.args.made.path c.new.result.entries.items c.new.ensures; woken = tt }
