-- What a run with workers printed.
use Rattle.std.proofs.Common.{ℕ, List, map, refl, subst}
use Rattle.std.specs.Prelude.{Option}
use mathlib.Core.Bool.{Bool-set}
use mathlib.Core.Logic.{∥∥₁_elim, ∥∥₁_map, ∥∥₁_prop}
use Rattle.sn_record.specs.Record.{Entries}
use Rattle.sn_record.specs.declared.item.Fault.{Fault}
use Rattle.sn_net.specs.declared.expr.BoxProgram.{BoxProgram}
use Rattle.sn_net.specs.declared.net.Net.{Net}
use Rattle.sn_net.specs.Item.{ModelItem, Rec}
use Rattle.sn_io.specs.Told.{AppendsPrefix}
use Rattle.sn_model.specs.declared.run.Run.{Run}
use Rattle.sn_model.specs.Meaning.{MayAnswerList, Setting}
use Rattle.sn_net.specs.WellFormed.{FitsBoxes}
use Rattle.sn_sound.proofs.Items.{typed_list_never_stuck}
use Rattle.sn_model.specs.Run.{MayGive}
use Rattle.sn_output.specs.Printed.{ending, printed}
use Rattle.sn_printing.specs.Farmed.{HasPrinted as FarmHasPrinted}
use Rattle.sn_load.specs.Load.{AreTypedRecords, Limits}
use Rattle.sn_plain.specs.Ready.{setting_at}
use Rattle.sn_plain.specs.Runs.{ComesOut, HasBegun, HasPrinted, IsOfStream, Printout, WithWorkers, ended}
use Rattle.sn_plain.proofs.Planned.{only_one}
use Rattle.sn_plain.specs.Seen.{Sink}
use Rattle.sn_plain.specs.Traces.{IsRunOver}
use Rattle.sn_plain.specs.declared.ready.Ready.{Ready}

-- what comes out of a network for typed records
comes_out : (s : Setting) (net : Net) (records : List Entries) (stream : List ModelItem) → FitsBoxes s.boxes net → AreTypedRecords s.boxes net records → MayAnswerList s net (map Rec records) stream
    → ComesOut s net records stream
comes_out s net records stream formed typed allowed = record {
  allowed = allowed;
  routed = ∥∥₁_elim formed (Bool-set _ _) (λ f. ∥∥₁_elim typed (Bool-set _ _) (λ t. typed_list_never_stuck s net f (map Rec records) stream t allowed));
  only = λ all. only_one s net (map Rec records) stream all allowed;
}

module _ (limits : Limits) (ready : Ready) (out : Sink) (formed : FitsBoxes ready.boxes ready.net) (typed : AreTypedRecords ready.boxes ready.net ready.records) where
  abbrev Shown : Printout → Type 0
  Shown = WithWorkers (setting_at ready limits) ready.net ready.records ready.names

  shown : (stream : List ModelItem) (p : Printout) → MayAnswerList (setting_at ready limits) ready.net (map Rec ready.records) stream → IsOfStream ready.names stream p → Shown p
  shown stream p may is = ∣ (stream, comes_out (setting_at ready limits) ready.net ready.records stream formed typed may, is) ∣₁

  -- a run made of what is ready
  module _ (run : Run) (over : IsRunOver (setting_at ready limits) ready.net ready.records run) where
    may_answer : (ys : List ModelItem) → MayGive run ys → MayAnswerList (setting_at ready limits) ready.net (map Rec ready.records) ys
    may_answer ys may =
        subst (λ (at : List BoxProgram × ℕ × ℕ × Net × List ModelItem). MayAnswerList (record { boxes = at.0; fuel = at.1; depth = at.2 }) at.3 at.4 ys)
        (λ i. (over.boxes_are i, over.fuel_is i, over.depth_is i, over.net_is i, over.input_is i)) may

    pub farm_printed : (end : Option Fault) → FarmHasPrinted ready.names run end out.before out.now → HasPrinted Shown out end
    farm_printed end has = (
      has.text,
      ∥∥₁_elim has.stream ∥∥₁_prop (λ some. shown some.0 (ended has.text end) (may_answer some.0 some.1) (record { bytes_are = some.2; ending_is = some.3; unrefused = refl })),
      has.all,
    )

    pub farm_begun : ∥ ((ys : List ModelItem) × MayGive run ys × AppendsPrefix out.before out.now (printed ready.names ys)) ∥₁ → HasBegun Shown out
    farm_begun has =
        ∥∥₁_map has (λ some.
        let p : Printout = ended (printed ready.names some.0) (ending some.0) in
        (p, shown some.0 p (may_answer some.0 some.1) (record { bytes_are = refl; ending_is = refl; unrefused = refl }), some.2))
