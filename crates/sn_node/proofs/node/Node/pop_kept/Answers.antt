use Rattle.sn_node.proofs.Awake.{woken_taken}
use Rattle.sn_node.specs.Child.{child_of}
use Rattle.std.proofs.Common.{map}
use Rattle.sn_node.proofs.node.Node.pop_kept.Goals as goal

pub invariant_of-self : goal.invariant_of-self
invariant_of-self c =
    let self = c.args.self.now in
    record {
      answered = self.answered;
      woken = woken_taken self.state (map child_of self.children.list.items) (map child_of c.pop_kept.new.self.list.items) c.args.c c.pop_kept.ensures.rest self.woken;
    }
