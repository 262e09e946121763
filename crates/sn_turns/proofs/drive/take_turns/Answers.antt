use Rattle.std.proofs.Common.{subst}
use Rattle.sn_graph.specs.Graph.{seen}
use Rattle.sn_turns.specs.declared.turn.Turn.{Turn}
use Rattle.sn_turns.specs.declared.turn.Turn.TheVariants.{Ended, Went}
use Rattle.sn_turns.proofs.drive.take_turns.Goals as goal

pub loop-init : goal.loop-init
loop-init g c = record { ready = (tt, tt); callers = c.requires.callers; of = c.requires.of; goes = g.met.W.Watcher.stays (seen c.args.graph.now) c.args.watcher.now }

pub loop-preserved-in-Went : goal.loop-preserved-in-Went
loop-preserved-in-Went g c = record {
  ready = (tt, tt);
  callers = c.turn.ensures.callers;
  of = c.turn.ensures.of;
  goes =
      g.met.W.Watcher.then _ _ _ _ _ _ Went c.loop.invariant.goes
      (let P : Turn → Type 0 = λ t. g.W.Watcher.goes (seen c.loop.graph) c.loop.watcher (seen c.turn.new.graph) c.turn.new.watcher t in subst P c.in-Went.is c.turn.ensures.goes);
}

pub loop-preserved : goal.loop-preserved
loop-preserved g c = record {
  ready = (tt, tt);
  callers = c.turn.ensures.callers;
  of = c.turn.ensures.of;
  goes =
      g.met.W.Watcher.then _ _ _ _ _ _ Went c.loop.invariant.goes
      (g.met.W.Watcher.idled _ _ _ _
      (let P : Turn → Type 0 = λ t. g.W.Watcher.goes (seen c.loop.graph) c.loop.watcher (seen c.turn.new.graph) c.turn.new.watcher t in subst P c.in-Idle.is c.turn.ensures.goes));
}

pub returns-in-Ended-clause-goes : goal.returns-in-Ended-clause-goes
returns-in-Ended-clause-goes g c =
    g.met.W.Watcher.then _ _ _ _ _ _ (Ended c.in-Ended.outcome) c.loop.invariant.goes
    (let P : Turn → Type 0 = λ t. g.W.Watcher.goes (seen c.loop.graph) c.loop.watcher (seen c.turn.new.graph) c.turn.new.watcher t in subst P c.in-Ended.is c.turn.ensures.goes)
