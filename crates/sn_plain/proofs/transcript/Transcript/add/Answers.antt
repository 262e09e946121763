use Rattle.std.proofs.Common.{[], ◌∷◌, ◌++◌, map, refl, sym, subst, ◌∙◌}
use Rattle.std.specs.Prelude.{Some}
use Rattle.std.proofs.lemmas.Result.{on_ok_weaker}
use Rattle.sn_record.specs.declared.item.Item.{Item}
use Rattle.sn_net.specs.Item.{modelled}
use Rattle.sn_plain.specs.Shown.{Shows}
use Rattle.sn_plain.specs.declared.transcript.Transcript.{Transcript}
use Rattle.sn_plain.proofs.Printing.{behind_fault, fault_added, not_ended, record_added}
use Rattle.sn_plain.proofs.transcript.Transcript.add.Goals as goal

pub returns-then-is_some : goal.returns-then-is_some
returns-then-is_some c = λ before shows. behind_fault c.args.names.now before c.args.self.now c.args.self.now shows (c.args.item ∷ []) (sym c.is_some.ensures ∙ c.if-is_some.true)

pub returns-in-Rec : goal.returns-in-Rec
returns-in-Rec c =
    let new : Transcript = record { text = c.push_line.new.text; fault = c.args.self.now.fault } in
    on_ok_weaker c.push_line.result
    (λ pushed before shows. subst (λ (x : Item). Shows c.args.names.now (map modelled (before ++ x ∷ [])) new) (sym c.in-Rec.is)
    (record_added c.args.names.now before c.args.self.now new shows c.in-Rec.shown (not_ended c.args.self.now.fault (sym c.is_some.ensures ∙ c.if-is_some.false)) pushed refl))
    c.push_line.ensures

pub returns-in-Fault : goal.returns-in-Fault
returns-in-Fault c =
    let new : Transcript = record { text = c.args.self.now.text; fault = Some c.in-Fault.fault } in
    λ before shows.
    subst (λ (x : Item). Shows c.args.names.now (map modelled (before ++ x ∷ [])) new) (sym c.in-Fault.is)
    (fault_added c.args.names.now before c.args.self.now new shows c.in-Fault.fault (not_ended c.args.self.now.fault (sym c.is_some.ensures ∙ c.if-is_some.false)) refl refl)
