use Rattle.sn_node.proofs.Free.{few_with_first, none_with_first}
use Rattle.sn_node.proofs.queue.Queue.unpop.Goals as goal

pub invariant_of-self : goal.invariant_of-self
invariant_of-self c =
    let old = c.args.self.now in
    record {
      within = few_with_first c.args.w old.entries.items c.push_front_reserved.new.self.items old.called c.called_with-self.result c.push_front_reserved.ensures.items c.called_with-self.ensures old.within;
      none_free = none_with_first c.args.w old.entries.items c.push_front_reserved.new.self.items old.called c.called_with-self.result c.push_front_reserved.ensures.items c.called_with-self.ensures old.none_free;
    }
