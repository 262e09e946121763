use Rattle.std.proofs.Common.{ap}
use Rattle.sn_graph.specs.Listed.{with_agenda}
use Rattle.sn_graph.proofs.Agendas.{listed_again, same_listed, taken_listed}
use Rattle.sn_graph.proofs.arena.Arena.settle.Goals as goal

pub loop-i-preserved : goal.loop-i-preserved
loop-i-preserved c = record {
  same = ap (with_agenda c.pop.new.self) c.loop-i.invariant.same;
  listed = taken_listed c.loop-i.self c.loop-i.invariant.listed c.pop.new.self c.in-Some.ensures.bound c.in-Some.i c.in-Some.ensures.others (c.is_busy.ensures c.if-is_busy.false);
}

pub returns-then-is_busy-clause-listed : goal.returns-then-is_busy-clause-listed
returns-then-is_busy-clause-listed c =
    listed_again c.loop-i.self c.loop-i.invariant.listed c.pop.new.self c.in-Some.ensures.bound c.in-Some.i c.in-Some.ensures.others c.list_if_below.new.self
    c.list_if_below.ensures.bound c.list_if_below.ensures.listed c.list_if_below.ensures.others

pub returns-clause-listed : goal.returns-clause-listed
returns-clause-listed c =
    same_listed c.loop-i.self c.pop.new.self c.loop-i.invariant.listed c.in_default.ensures.others c.in_default.ensures.bound
