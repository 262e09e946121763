use Rattle.std.proofs.Common.{ap, refl, sym, ◌∙◌}
use Rattle.sn_net.specs.Cell.{Slots, Waiting}
use Rattle.sn_sync.specs.Slotted.{state_of}
use Rattle.sn_sync.proofs.Receptions.{received-joined}
use Rattle.sn_sync.proofs.cell.Holding.offer.Goals as goal

pub returns-in-Err-clause-joining : goal.returns-in-Err-clause-joining
returns-in-Err-clause-joining c =
    received-joined c.args.patterns.now c.args.self.now c.deref.result.now c.deref_mut.result.now c.in-Some.place c.args.r
    (sym c.self.view_is ∙ ap state_of c.in-Waiting.is ∙ ap (λ (slots : Slots). Waiting slots) (sym c.deref.ensures.value))
    (c.deref_mut.ensures.value ∙ sym c.deref.ensures.value)
    c.in-Some.ensures.slot
    c.in-Err.ensures.joining
