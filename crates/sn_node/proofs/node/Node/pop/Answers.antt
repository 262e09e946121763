use Rattle.sn_node.proofs.Answering.{answered_left, answered_taken}
use Rattle.sn_node.proofs.node.Node.pop.Goals as goal

pub invariant_of-self : goal.invariant_of-self
invariant_of-self c =
    let made = c.args.self.now.made in
    record { answered = answered_left made.run.value made.path c.args.self.now.waiting.entries.items c.pop.new.self.entries.items c.pop.result c.pop.ensures.items c.args.self.now.answered; woken = c.args.self.now.woken }

pub returns-clause-answered : goal.returns-clause-answered
returns-clause-answered c =
    let made = c.args.self.now.made in
    answered_taken made.run.value made.path c.args.self.now.waiting.entries.items c.pop.new.self.entries.items c.pop.result c.pop.ensures.items c.args.self.now.answered
