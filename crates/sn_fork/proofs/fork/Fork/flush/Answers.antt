use Rattle.std.proofs.Common.{rules, ◌≡◌, sym, subst}
use Rattle.sn_component.specs.declared.outbox.Until.TheVariants as some_until
use Rattle.sn_fork.specs.Turns.{ChildFull}
use Rattle.sn_fork.proofs.fork.Fork.flush.Goals as goal

pub returns-then-eq-clause-full : goal.returns-then-eq-clause-full
returns-then-eq-clause-full g c =
    let full : c.send_to-sent.result.until ≡ some_until.Full = search rules in
    λ _. subst ChildFull (sym c.self-in-loop-c.view_is) (c.send_to-sent.ensures.full full)
