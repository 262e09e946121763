use Rattle.std.proofs.Common.{subst, ◌∷◌, []}
use Rattle.sn_net.specs.Item.{modelled}
use Rattle.sn_record.specs.declared.item.Item.{Item}
use Rattle.sn_printing.specs.Turns.{Emits}
use Rattle.sn_printing.specs.Turning.{wrote, wrote_none, wrote_part}
use Rattle.sn_printing.proofs.printer.write.Goals as goal

pub returns-in-Ok-clause-goes : goal.returns-in-Ok-clause-goes
returns-in-Ok-clause-goes g c old new emits = wrote c.args.lines.now.names.now old new _ _ _ _ c.line.ensures.later c.in-Rec.record (subst (λ (x : Item). Emits (modelled x ∷ []) old new) c.in-Rec.is emits) c.in-Ok.ensures.whole

pub returns-in-Err-WriteFault-clause-goes : goal.returns-in-Err-WriteFault-clause-goes
returns-in-Err-WriteFault-clause-goes g c old new emits =
    wrote_part c.args.lines.now.names.now old new _ _ _ _ c.line.ensures.later c.in-Rec.record (subst (λ (x : Item). Emits (modelled x ∷ []) old new) c.in-Rec.is emits)
    (c.in-Err-WriteFault.ensures.part c.in-Err-WriteFault.field-0-is) (c.in-Err-WriteFault.ensures.rose c.in-Err-WriteFault.field-0-is)

pub returns-in-Err-Memory-clause-goes : goal.returns-in-Err-Memory-clause-goes
returns-in-Err-Memory-clause-goes g c old new emits =
    wrote_none c.args.lines.now.names.now old new _ _ _ _ c.line.ensures.later c.in-Rec.record (subst (λ (x : Item). Emits (modelled x ∷ []) old new) c.in-Rec.is emits) (c.in-Err-Memory.ensures.nothing c.in-Err-Memory.field-0-is)
