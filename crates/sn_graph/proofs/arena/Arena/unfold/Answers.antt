use Rattle.std.proofs.Common.{◌+◌, length, arith, rules, ap, ◌∙◌}
use Rattle.sn_graph.specs.Grown.{next_of}
use Rattle.sn_graph.proofs.Adopting.{fresh_all, fresh_nodes, lacks_after, lacks_enabled, lacks_none, lacks_within}
use Rattle.sn_graph.proofs.arena.Arena.unfold.Goals as goal

pub adopt-requires : goal.adopt-requires
adopt-requires c = record {
  within = lacks_within c.args.self.now c.args.run.now c.args.i c.in-Some.key c.requires c.in-Some.ensures;
  none = lacks_none c.args.self.now c.args.run.now c.args.i c.in-Some.key c.requires c.in-Some.ensures;
}

pub returns-in_err-adopt-clause-of : goal.returns-in_err-adopt-clause-of
returns-in_err-adopt-clause-of c =
    c.in_err-adopt.ensures.of c.args.run.now (fresh_all c.args.run.now _ c.new-grown.result c.grow_child.new.grown c.new-grown.ensures.nodes c.in_ok-grow_child.ensures)
    (record { made = c.requires.made; nodes = c.requires.nodes })

pub returns-clause-enabled : goal.returns-clause-enabled
returns-clause-enabled c = lacks_enabled c.args.self.now c.args.run.now c.args.i c.in-Some.key c.requires c.in-Some.ensures

pub returns-clause-of : goal.returns-clause-of
returns-clause-of c =
    c.in_ok-adopt.ensures.of c.args.run.now (fresh_all c.args.run.now _ c.new-grown.result c.grow_child.new.grown c.new-grown.ensures.nodes c.in_ok-grow_child.ensures)
    (record { made = c.requires.made; nodes = c.requires.nodes })

pub returns-clause-after : goal.returns-clause-after
returns-clause-after c =
    c.in_ok-adopt.ensures.ok
    ∙ lacks_after c.args.self.now c.args.run.now c.args.i c.in-Some.key c.requires c.in-Some.ensures c.index.result.now
    (lacks_within c.args.self.now c.args.run.now c.args.i c.in-Some.key c.requires c.in-Some.ensures) c.index.ensures
    c.grow_child.new.grown.nodes.items (next_of c.new-grown.result)
    (fresh_nodes c.args.run.now _ c.new-grown.result c.grow_child.new.grown c.new-grown.ensures.nodes c.in_ok-grow_child.ensures)
    (ap (λ n. n + length c.new-grown.result.nodes.items) c.new-grown.ensures.base ∙ ap (λ ns. c.len-entry.result + length ns) c.new-grown.ensures.nodes ∙ search (rules, arith))
