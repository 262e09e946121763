use Rattle.std.proofs.Common.{◌≡◌, ◌<◌, true, length, rules, arith}
use Rattle.sn_node.specs.Agenda.{is_listed}
use Rattle.sn_graph.proofs.Noting.{entries_noted}
use Rattle.sn_graph.proofs.listing.list_entries.Goals as goal

pub loop-c-preserved : goal.loop-c-preserved
loop-c-preserved c = record {
  first = entries_noted c.args.children.now.list.items c.loop-c.c c.index.result.now (λ e. e < length c.list_if_below.new.self.listed.items → is_listed e c.list_if_below.new.self.stack.items ≡ true) (search (rules, arith)) c.index.ensures
      (λ within. c.list_if_below.ensures.listed (search (rules, arith, within)))
      (λ i child less there within. c.list_if_below.ensures.others child.entry (c.loop-c.invariant.first i child less there (search (rules, arith, within))));
  others = λ j is. c.list_if_below.ensures.others j (c.loop-c.invariant.others j is);
  bound = search rules;
}
