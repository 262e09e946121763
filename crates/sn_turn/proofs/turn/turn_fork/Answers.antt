use Rattle.std.proofs.Common.{rules, ◌≡◌, ◌<◌, List, [], ap, subst, length}
use Rattle.sn_component.specs.Moved.{is_done}
use Rattle.sn_component.specs.Outbox.{has_ended}
use Rattle.sn_fork.specs.Progress.{WentForking}
use Rattle.sn_fork.specs.Seen.{Forking}
use Rattle.sn_turn.specs.Turns.{Spawned, Unfolds}
use Rattle.sn_turn.specs.declared.node.Kind.TheVariants as some_kind
use Rattle.sn_turn.specs.declared.node.Node.{Node}
use Rattle.sn_turn.proofs.Turning.{fork_moves, fork_moves_more, spawned_further, unfolds_further, went_to}
use Rattle.sn_turn.proofs.turn.turn_fork.Goals as goal

pub returns-in-Ok-Some-clause-went : goal.returns-in-Ok-Some-clause-went
returns-in-Ok-Some-clause-went g c =
    let unfolds = subst (λ (f : Forking). Unfolds f c.round.new.fork) c.get_mut.ensures.value c.round.ensures.unfolds in
    let went : WentForking c.args.fork c.round.new.fork c.in-Ok-Some.moved = search rules in
    let ended : has_ended c.round.new.fork.output ≡ is_done c.in-Ok-Some.moved = search rules in
    let spawned = subst (λ (f : Forking). Spawned f c.round.new.fork c.new-spawned.result.items c.round.new.spawned.items) c.get_mut.ensures.value c.round.ensures.spawned in
    went_to (some_kind.Fork c.args.fork) (some_kind.Fork c.round.new.fork) c.answer.result c.in-Ok-Some.moved c.round.new.spawned.items c.answer.ensures.moved
    (ap (λ v. v.items) c.answer.ensures.spawned) c.answer.ensures.node unfolds (fork_moves c.args.fork c.round.new.fork c.in-Ok-Some.moved went) ended
    (subst (λ (nodes : List Node). Spawned c.args.fork c.round.new.fork nodes c.round.new.spawned.items) c.new-spawned.ensures.items spawned)

pub returns-in-Ok-None-clause-went : goal.returns-in-Ok-None-clause-went
returns-in-Ok-None-clause-went g c =
    let first = subst (λ (f : Forking). Unfolds f c.round.new.fork) c.get_mut.ensures.value c.round.ensures.unfolds in
    let then = subst (λ (f : Forking). Unfolds f c.go_on-moved.new.fork) c.get_mut-in-Ok-None.ensures.value c.go_on-moved.ensures.unfolds in
    let made : length c.args.fork.children < length c.round.new.fork.children = search rules in
    let ended : has_ended c.go_on-moved.new.fork.output ≡ is_done c.go_on-moved.result = search rules in
    let spawned = subst (λ (f : Forking). Spawned f c.round.new.fork c.new-spawned.result.items c.round.new.spawned.items) c.get_mut.ensures.value c.round.ensures.spawned in
    let more = subst (λ (f : Forking). Spawned f c.go_on-moved.new.fork c.round.new.spawned.items c.go_on-moved.new.spawned.items) c.get_mut-in-Ok-None.ensures.value c.go_on-moved.ensures.spawned in
    went_to (some_kind.Fork c.args.fork) (some_kind.Fork c.go_on-moved.new.fork) c.answer-in-Ok-None.result c.go_on-moved.result c.go_on-moved.new.spawned.items c.answer-in-Ok-None.ensures.moved
    (ap (λ v. v.items) c.answer-in-Ok-None.ensures.spawned) c.answer-in-Ok-None.ensures.node
    (unfolds_further c.args.fork c.round.new.fork c.go_on-moved.new.fork first then)
    (fork_moves_more c.args.fork c.round.new.fork c.go_on-moved.new.fork c.go_on-moved.result made then c.go_on-moved.ensures.done c.go_on-moved.ensures.busy) ended
    (spawned_further c.args.fork c.round.new.fork c.go_on-moved.new.fork [] c.round.new.spawned.items c.go_on-moved.new.spawned.items first
    (subst (λ (nodes : List Node). Spawned c.args.fork c.round.new.fork nodes c.round.new.spawned.items) c.new-spawned.ensures.items spawned) more)
