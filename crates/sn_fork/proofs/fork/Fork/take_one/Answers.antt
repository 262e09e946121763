use Rattle.std.proofs.Common.{rules, arith, ◌≡◌, ◌<◌, sym, subst}
use Rattle.sn_fork.specs.Progress.{WentForking}
use mathlib.Core.Logic.{inl, inr}
use Rattle.sn_stream.specs.Ends.{WasEmpty}
use Rattle.sn_fork.specs.Seen.{Forking}
use Rattle.sn_fork.specs.Turns.{ChildFull, GoesOn, moves_of}
use Rattle.sn_fork.proofs.Moves.{goes_deciding, goes_further, went_or_idle}
use Rattle.sn_fork.proofs.fork.Fork.take_one.Goals as goal

pub returns-then-not-flushed-clause-goes : goal.returns-then-not-flushed-clause-goes
returns-then-not-flushed-clause-goes g c =
    goes_further c.args.self.now c.decide.new.self c.flush-flushed.new.self
    (goes_deciding c.args.self.now c.decide.new.self c.decide.ensures.same c.decide.ensures.held) c.flush-flushed.ensures.goes

pub returns-then-not-flushed-clause-ok : goal.returns-then-not-flushed-clause-ok
returns-then-not-flushed-clause-ok g c =
    let full : ChildFull c.flush-flushed.new.self = search rules in
    went_or_idle c.args.self.now c.decide.new.self c.flush-flushed.new.self c.flush-flushed.result.some c.some_or_idle.result
    (goes_deciding c.args.self.now c.decide.new.self c.decide.ensures.same c.decide.ensures.held) c.flush-flushed.ensures.some (inr (inr full)) c.some_or_idle.ensures

pub returns-then-receive-clause-goes : goal.returns-then-receive-clause-goes
returns-then-receive-clause-goes g c =
    goes_further c.args.self.now c.decide.new.self c.receive.new.self (goes_deciding c.args.self.now c.decide.new.self c.decide.ensures.same c.decide.ensures.held)
    (goes_further c.decide.new.self c.flush-flushed.new.self c.receive.new.self c.flush-flushed.ensures.goes c.receive.ensures.goes)

pub returns-then-receive-clause-ok : goal.returns-then-receive-clause-ok
returns-then-receive-clause-ok g c =
    let first : GoesOn c.args.self.now c.decide.new.self = goes_deciding c.args.self.now c.decide.new.self c.decide.ensures.same c.decide.ensures.held in
    let got : moves_of c.flush-flushed.new.self < moves_of c.receive.new.self = search rules in
    omega (arith, first.moves, c.flush-flushed.ensures.goes.moves, got)

pub returns-clause-goes : goal.returns-clause-goes
returns-clause-goes g c =
    goes_further c.args.self.now c.decide.new.self c.receive.new.self (goes_deciding c.args.self.now c.decide.new.self c.decide.ensures.same c.decide.ensures.held)
    (goes_further c.decide.new.self c.flush-flushed.new.self c.receive.new.self c.flush-flushed.ensures.goes c.receive.ensures.goes)

pub returns-clause-ok : goal.returns-clause-ok
returns-clause-ok g c =
    let first : GoesOn c.args.self.now c.decide.new.self = goes_deciding c.args.self.now c.decide.new.self c.decide.ensures.same c.decide.ensures.held in
    let none : (c.receive.new.self ≡ c.flush-flushed.new.self) × WasEmpty c.flush-flushed.new.self.input = search rules in
    subst (λ (f : Forking). WentForking c.args.self.now f c.some_or_idle-2.result) (sym none.0)
    (went_or_idle c.args.self.now c.decide.new.self c.flush-flushed.new.self c.flush-flushed.result.some c.some_or_idle-2.result first c.flush-flushed.ensures.some (inl none.1)
    c.some_or_idle-2.ensures)
