use Rattle.std.proofs.Common.{sym, ◌∙◌}
use Rattle.sn_turn.specs.Unfolding.{Unfolded}
use Rattle.sn_turn.proofs.Parts.{ok_there}
use Rattle.sn_turn.proofs.Turning.{spawned_further, spawned_going, spawned_made, unfolds_further, unfolds_going, unfolds_made}
use Rattle.sn_turn.proofs.turn.round.Goals as goal

pub returns-then-is_ok-clause-unfolds : goal.returns-then-is_ok-clause-unfolds
returns-then-is_ok-clause-unfolds g c =
    let made : Unfolded c.turn.new.self c.unfold.new.fork c.args.spawned.now.items c.unfold.new.spawned.items = ok_there c.unfold.result (sym c.is_ok.ensures.value ∙ c.if-is_ok.true) c.unfold.ensures.ok in
    unfolds_further c.args.fork.now c.turn.new.self c.unfold.new.fork (unfolds_going c.args.fork.now c.turn.new.self c.turn.ensures.goes)
    (unfolds_made c.turn.new.self c.unfold.new.fork c.args.spawned.now.items c.unfold.new.spawned.items made)

pub returns-then-is_ok-clause-spawned : goal.returns-then-is_ok-clause-spawned
returns-then-is_ok-clause-spawned g c =
    let made : Unfolded c.turn.new.self c.unfold.new.fork c.args.spawned.now.items c.unfold.new.spawned.items = ok_there c.unfold.result (sym c.is_ok.ensures.value ∙ c.if-is_ok.true) c.unfold.ensures.ok in
    spawned_further c.args.fork.now c.turn.new.self c.unfold.new.fork c.args.spawned.now.items c.args.spawned.now.items c.unfold.new.spawned.items
    (unfolds_going c.args.fork.now c.turn.new.self c.turn.ensures.goes) (spawned_going c.args.fork.now c.turn.new.self c.args.spawned.now.items c.turn.ensures.goes)
    (spawned_made c.turn.new.self c.unfold.new.fork c.args.spawned.now.items c.unfold.new.spawned.items made)
