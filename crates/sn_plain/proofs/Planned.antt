-- A run of a plan prints what a run of the network as it was written may print.
use Rattle.std.proofs.Common.{◌≡◌, IsTrue, List, [], ◌∷◌, map, ap, inl, inr}
use Rattle.std.specs.Prelude.{Option}
use Rattle.std.specs.List.{All}
use Rattle.std.proofs.lemmas.List.Elements.{All-map, All-weaker}
use Rattle.std.proofs.lemmas.List.Folds.{Any-from_list_any}
use mathlib.Core.Logic.{∥∥₁_elim, ∥∥₁_map, ∥∥₁_prop}
use Rattle.sn_record.specs.LabelSet.{Labels}
use Rattle.sn_record.specs.Record.{Entries, is_match}
use Rattle.sn_record.proofs.Scores.{is_match-Matches}
use Rattle.sn_streams.specs.Segments.{first_segment}
use Rattle.sn_streams.proofs.Trees.{tree_has_one}
use Rattle.sn_net.specs.declared.net.Net.{Net}
use Rattle.sn_net.specs.Item.{ModelItem, Rec}
use Rattle.sn_net.specs.Net.{all_deterministic}
use Rattle.sn_net.specs.WellFormed.{FitsBoxes, IsWellFormed}
use Rattle.sn_model.specs.Meaning.{MayAnswerList, Setting, one_list, tree}
use Rattle.sn_model.proofs.Ordered.{all_in_order}
use Rattle.sn_typing.specs.Accepted.{IsAccepted}
use Rattle.sn_typing.specs.Typed.{IsItemOfType}
use Rattle.sn_planned.specs.Planned.{IsPlan}
use Rattle.sn_planned.proofs.Whole.{plan_list_alike, plan_typed}
use Rattle.sn_load.specs.Load.{AreTypedRecords, Limits}
use Rattle.sn_pieces.specs.Lines.{is_of_type}
use Rattle.sn_plain.specs.Ready.{RunsAs, ready_of, setting_at}
use Rattle.sn_plain.specs.Runs.{ComesOut, HasBegun, HasPrinted, Printout, WhyUnfinished, WithWorkers}
use Rattle.sn_plain.specs.Seen.{Sink}
use Rattle.sn_plain.specs.declared.ready.Checked.{Checked}
use Rattle.sn_plain.specs.declared.ready.Ready.{Ready}
use Rattle.sn_record.specs.declared.item.Fault.{Fault}
use Rattle.sn_stop.specs.declared.stop.Stop.{Stop}
use Rattle.sn_stop.specs.declared.stop.Stop.TheVariants.{Refused, Faulted, Unread, Memory, Write}

-- where each merge is in order, what a network may answer is its one-thread meaning
pub only_one : (s : Setting) (net : Net) (xs ys : List ModelItem) → IsTrue (all_deterministic net) → MayAnswerList s net xs ys → ys ≡ one_list s net xs
only_one s net xs ys all may = ap first_segment (tree_has_one (tree s net) (all_in_order s net all) (xs ∷ []) (ys ∷ []) may)

one_of_type : (input : List Labels) (r : Entries) → IsTrue (is_of_type input r) → IsItemOfType input (Rec r)
one_of_type input r is =
    let found = Any-from_list_any (is_match r) input is in
    record { variant = found.1; listed = (found.0, found.2, found.3); matched = (is_match-Matches r found.1).0 found.4 }

module _ (checked : Checked) (formed : FitsBoxes checked.boxes checked.claim.net) (accepted : IsAccepted checked.boxes checked.claim)
    (of_type : All (λ r. IsTrue (is_of_type checked.claim.input r)) checked.records) (net : Net) (plan : IsPlan checked.boxes checked.claim net) where
  abbrev items : List ModelItem
  items = map Rec checked.records

  abbrev planned : Ready
  planned = record { net = net; boxes = checked.boxes; records = checked.records; names = checked.names }

  items_of_type : All (IsItemOfType checked.claim.input) items
  items_of_type =
      All-map (IsItemOfType checked.claim.input) Rec checked.records
      (All-weaker (λ r. IsTrue (is_of_type checked.claim.input r)) (λ r. IsItemOfType checked.claim.input (Rec r)) (one_of_type checked.claim.input) checked.records of_type)

  pub planned_typed : AreTypedRecords checked.boxes net checked.records
  planned_typed = ∥∥₁_map formed (λ well. plan_typed checked.boxes checked.claim well accepted net plan items items_of_type)

  comes_out : (limits : Limits) (stream : List ModelItem) → IsWellFormed checked.boxes checked.claim.net → ComesOut (setting_at planned limits) net checked.records stream
      → ComesOut (setting_at (ready_of checked) limits) checked.claim.net checked.records stream
  comes_out limits stream well out =
      let alike = plan_list_alike checked.boxes checked.claim well accepted net plan limits.fuel limits.depth items items_of_type in
      let allowed : MayAnswerList (setting_at (ready_of checked) limits) checked.claim.net items stream = (alike.allowed (stream ∷ [])).0 out.allowed in
      record { allowed = allowed; routed = out.routed; only = λ all. only_one (setting_at (ready_of checked) limits) checked.claim.net items stream all allowed }

  pub planned_runs : RunsAs (ready_of checked) planned
  planned_runs limits p shown = ∥∥₁_elim formed ∥∥₁_prop (λ well. ∥∥₁_map shown (λ some. (some.0, comes_out limits some.0 well some.1, some.2)))

-- what was printed of the one is printed of the other
module _ (limits : Limits) (ready run : Ready) (runs : RunsAs ready run) (out : Sink) where
  abbrev Shown : Ready → Printout → Type 0
  Shown is = WithWorkers (setting_at is limits) is.net is.records is.names

  pub printed_as : (fault : Option Fault) → HasPrinted (Shown run) out fault → HasPrinted (Shown ready) out fault
  printed_as fault printed = (printed.0, runs limits _ printed.1, printed.2)

  begun_as : HasBegun (Shown run) out → HasBegun (Shown ready) out
  begun_as begun = ∥∥₁_map begun (λ some. (some.0, runs limits some.0 some.1, some.2))

  pub unfinished_as : (why : Stop) → WhyUnfinished (Shown run) out why → WhyUnfinished (Shown ready) out why
  unfinished_as (Refused refusal) why = absurd why
  unfinished_as (Faulted fault) why = absurd why
  unfinished_as (Unread which) why = absurd why
  unfinished_as Memory (inl same) = inl same
  unfinished_as Memory (inr begun) = inr (begun_as begun)
  unfinished_as Write why = (why.0, begun_as why.1)
