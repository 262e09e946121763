use Rattle.std.proofs.Common.{arith, rules, ap, sym, ◌∙◌}
use Rattle.std.specs.Prelude.{is_some}
use Rattle.sn_graph.proofs.Here.{get_read, here}
use Rattle.sn_graph.proofs.Unfolded.{has_child, is_none, no_fork, no_routing}
use Rattle.sn_graph.proofs.arena.Arena.missing_child.Goals as goal

pub returns : goal.returns
returns c = record {
  node = c.index-node.result.now;
  there = get_read c.args.self.now.nodes.items c.args.i c.index-node.result.now (search (rules, arith)) c.index-node.ensures;
  goes = c.in-Some.ensures;
  fork = sym c.is_fork.ensures ∙ c.if-not-is_fork.false;
  none = is_none _ (ap (λ o. is_some o) (sym c.number_of.ensures.number) ∙ sym c.is_some.ensures ∙ c.if-is_some.false);
}

pub returns-then-is_some : goal.returns-then-is_some
returns-then-is_some c =
    has_child c.args.self.now c.args.run.now c.args.i c.index-node.result.now c.requires.made (here c.args.self.now c.args.i c.index-node.result.now (search (rules, arith)) c.index-node.ensures)
    c.in-Some.key c.in-Some.ensures (sym c.is_fork.ensures ∙ c.if-not-is_fork.false) (ap (λ o. is_some o) (sym c.number_of.ensures.number) ∙ sym c.is_some.ensures ∙ c.if-is_some.true)

pub returns-then-not-is_fork : goal.returns-then-not-is_fork
returns-then-not-is_fork c =
    no_fork c.args.self.now c.args.run.now c.args.i c.index-node.result.now c.requires.made (here c.args.self.now c.args.i c.index-node.result.now (search (rules, arith)) c.index-node.ensures)
    c.in-Some.key c.in-Some.ensures (sym c.is_fork.ensures ∙ c.if-not-is_fork.true)

pub returns-in_default : goal.returns-in_default
returns-in_default c =
    no_routing c.args.self.now c.args.run.now c.args.i c.index-node.result.now c.requires.made (here c.args.self.now c.args.i c.index-node.result.now (search (rules, arith)) c.index-node.ensures)
    c.in_default.ensures
