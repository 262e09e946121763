use Rattle.std.proofs.Common.{ap, ◌-◌, length}
use Rattle.sn_node.specs.Seen.{node_of, waiting_of}
use Rattle.sn_node.proofs.Last.{answered_before, seen_last}
use Rattle.sn_node.proofs.node.Node.unwait.Goals as goal

pub invariant_of-self : goal.invariant_of-self
invariant_of-self c =
    let made = c.args.self.now.made in
    let old = c.args.self.now.waiting.entries.items in
    record { answered = answered_before made.run.value made.path (length old - 1) old c.drop_last.new.self.entries.items c.drop_last.ensures c.args.self.now.answered; woken = c.args.self.now.woken }

pub returns-clause-rest : goal.returns-clause-rest
returns-clause-rest c =
    ap (λ ws. record (node_of c.args.self.now) { waiting = ws }) (seen_last waiting_of c.args.self.now.waiting.entries.items c.drop_last.new.self.entries.items c.drop_last.ensures)
