use Rattle.std.proofs.Common.{ap, subst, ◌∙◌}
use Rattle.sn_component.specs.Moved.{is_last}
use Rattle.sn_turn.specs.Rounds.{RoundOf}
use Rattle.sn_turn.proofs.Turning.{busy_after, done_after, ended_after, spawned_further, unfolds_further}
use Rattle.sn_turn.proofs.turn.go_on.Goals as goal

pub loop-preserved : goal.loop-preserved
loop-preserved g c = record {
  unfolds = unfolds_further c.args.fork.now c.loop.fork c.round.new.fork c.loop.invariant.unfolds c.in-Ok-None.ensures.unfolds;
  spawned = spawned_further c.args.fork.now c.loop.fork c.round.new.fork c.args.spawned.now.items c.loop.spawned.items c.round.new.spawned.items c.loop.invariant.unfolds c.loop.invariant.spawned c.in-Ok-None.ensures.spawned;
  ended = λ no. c.in-Ok-None.ensures.ended (c.loop.invariant.ended no) ∙ ap is_last c.in-Ok-None.field-0-is;
}

pub returns-in-Ok-Some : goal.returns-in-Ok-Some
returns-in-Ok-Some g c = record {
  unfolds = unfolds_further c.args.fork.now c.loop.fork c.round.new.fork c.loop.invariant.unfolds c.in-Ok-Some.ensures.unfolds;
  done = done_after c.in-Ok-Some.moved c.after_more.result c.loop.fork c.round.new.fork c.after_more.ensures
      (subst (RoundOf c.loop.fork c.round.new.fork) c.in-Ok-Some.field-0-is c.in-Ok-Some.ensures.went);
  busy = busy_after c.in-Ok-Some.moved c.after_more.result c.after_more.ensures;
  ended = λ no. c.in-Ok-Some.ensures.ended (c.loop.invariant.ended no) ∙ ap is_last c.in-Ok-Some.field-0-is ∙ ended_after c.in-Ok-Some.moved c.after_more.result c.after_more.ensures;
  spawned = spawned_further c.args.fork.now c.loop.fork c.round.new.fork c.args.spawned.now.items c.loop.spawned.items c.round.new.spawned.items c.loop.invariant.unfolds c.loop.invariant.spawned c.in-Ok-Some.ensures.spawned;
}

pub returns-in-Err-clause-spawned : goal.returns-in-Err-clause-spawned
returns-in-Err-clause-spawned g c = spawned_further c.args.fork.now c.loop.fork c.round.new.fork c.args.spawned.now.items c.loop.spawned.items c.round.new.spawned.items c.loop.invariant.unfolds c.loop.invariant.spawned c.in-Err.ensures.spawned
