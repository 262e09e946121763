-- What a replay prints is what a run may print, and what a run writes of itself is replayed.
use Rattle.std.proofs.Common.{◌≡◌, ℕ, Bool, true, false, List, [], ◌∷◌, ◌++◌, length, ◌≤◌, map, refl, sym, ap, ◌∙◌, subst, true≢false}
use Rattle.std.specs.Prelude.{Ok, Option, None, Some, IfSome}
use Rattle.std.specs.List.{list_any}
use mathlib.Core.Bool.{Bool-set}
use mathlib.Core.Logic.{∥∥₁_elim, ∥∥₁_map}
use Rattle.sn_record.specs.Record.{Entries}
use Rattle.sn_input.specs.declared.input.Input.{Input}
use Rattle.sn_net.specs.declared.expr.BoxProgram.{BoxProgram}
use Rattle.sn_net.specs.declared.net.Net.{Net}
use Rattle.sn_net.specs.Item.{ModelItem, Rec, Fault, Stuck, holds_stuck}
use Rattle.sn_net.specs.WellFormed.{IsWellFormed}
use Rattle.sn_streams.specs.Segments.{first_segment}
use Rattle.sn_streams.proofs.Trees.{tree_has_one}
use Rattle.sn_model.specs.Meaning.{MayAnswerList, Setting, tree}
use Rattle.sn_model.specs.Run.{MayGive, boxes_of, input_of, net_of, setting_of}
use Rattle.sn_model.specs.declared.run.Run.{Run}
use Rattle.sn_model.proofs.Ordered.{all_in_order}
use Rattle.sn_sound.proofs.Items.{typed_list_never_stuck}
use Rattle.sn_event_lines.specs.Naming.{is_fault}
use Rattle.sn_replay.specs.Replays.{Replays}
use Rattle.sn_replay.proofs.Allowed.{trace_begun, trace_whole}
use Rattle.sn_output.specs.Printed.{ending, printed}
use Rattle.sn_output.specs.Line.{line}
use Rattle.sn_load.specs.Load.{IsTypedFile, Limits, setting}
use Rattle.sn_load.specs.declared.load.Program.{Program}
use Rattle.sn_load.specs.declared.load.TheConstants.{INPUT_LIMIT}
use Rattle.sn_plain.specs.Answer.{Finds, FindsReplay, IsAccepted}
use Rattle.sn_plain.specs.Runs.{ComesOut, IsOfStream, Printout, Prints, WithWorkers, ended}
use Rattle.sn_plain.specs.Traces.{IsRunOver, Played, PlayedFrom, Traced}
use Rattle.sn_plain.specs.declared.replaying.TheConstants.{TRACE_LIMIT}

-- behind a fault nothing counts
module _ (names : List (List ℕ)) where
  same_end : (ys more : List ModelItem) → list_any is_fault ys ≡ true → holds_stuck (ys ++ more) ≡ false → (printed names (ys ++ more) ≡ printed names ys) × (ending (ys ++ more) ≡ ending ys)
  same_end [] more faulty routed = absurd (true≢false (sym faulty))
  same_end (Rec r ∷ ys) more faulty routed = let same = same_end ys more faulty routed in (ap (λ bytes. line names r ++ bytes) same.0, same.1)
  same_end (Fault at ∷ ys) more faulty routed = (refl, refl)
  same_end (Stuck place ∷ ys) more faulty routed = absurd (true≢false routed)

-- what a run may give comes out of it
module _ (s : Setting) (net : Net) (records : List Entries) (run : Run) (over : IsRunOver s net records run) where
  allowed_here : (ys : List ModelItem) → MayGive run ys → MayAnswerList s net (map Rec records) ys
  allowed_here ys may =
      subst (λ (at : List BoxProgram × ℕ × ℕ × Net × List ModelItem). MayAnswerList (record { boxes = at.0; fuel = at.1; depth = at.2 }) at.3 at.4 ys)
      (λ i. (over.boxes_are i, over.fuel_is i, over.depth_is i, over.net_is i, over.input_is i)) may

  routed_here : (ys : List ModelItem) → MayGive run ys → holds_stuck ys ≡ false
  routed_here ys may =
      ∥∥₁_elim run.formed (Bool-set _ _) (λ formed. ∥∥₁_elim run.typed (Bool-set _ _) (λ typed. typed_list_never_stuck (setting_of run) (net_of run) formed (input_of run) ys typed may))

  comes_out : (ys : List ModelItem) → MayGive run ys → ComesOut s net records ys
  comes_out ys may = record {
    allowed = allowed_here ys may;
    routed = routed_here ys may;
    only = λ all. ap first_segment (tree_has_one (tree s net) (all_in_order s net all) (map Rec records ∷ []) (ys ∷ []) (allowed_here ys may));
  }

  -- by a trace items come out that end, and are printed, as some stream that may come out
  module _ (names : List (List ℕ)) (text : List ℕ) (ys : List ModelItem) (replays : Replays run text ys) where
    stream_of_trace : IsWellFormed (boxes_of run) (net_of run) → (faulty : Bool) → list_any is_fault ys ≡ faulty
        → (zs : List ModelItem) × ComesOut s net records zs × (printed names zs ≡ printed names ys) × (ending zs ≡ ending ys)
    stream_of_trace formed false is = (ys, comes_out ys (trace_whole run text ys formed replays is), refl, refl)
    stream_of_trace formed true is =
        let (zs, may, (more, begins)) = trace_begun run text ys formed replays in
        let same = same_end names ys more is (subst (λ xs. holds_stuck xs ≡ false) begins (routed_here zs may)) in
        (zs, comes_out zs may, ap (printed names) begins ∙ same.0, ap ending begins ∙ same.1)

    pub printed_by_workers : (p : Printout) → IsOfStream names ys p → WithWorkers s net records names p
    printed_by_workers p shown =
        ∥∥₁_map run.formed (λ formed.
        let (zs, out, bytes, end) = stream_of_trace formed (list_any is_fault ys) refl in
        (zs, out, record { bytes_are = shown.bytes_are ∙ sym bytes; ending_is = shown.ending_is ∙ sym end; unrefused = shown.unrefused }))

-- a replay prints what workers may print
pub played_by_workers : (text : List ℕ) (s : Setting) (net : Net) (records : List Entries) (names : List (List ℕ)) (p : Printout) → Played text s net records names p → WithWorkers s net records names p
played_by_workers text s net records names p (run, over, is) = printed_by_workers s net records run over names text is.items is.replays p is.shown

-- and a trace ends as what workers may print
pub traced_by_workers : (s : Setting) (net : Net) (records : List Entries) (names : List (List ℕ)) (p : Printout) → Traced s net records names p
    → (q : Printout) × WithWorkers s net records names q × (q.ending ≡ p.ending)
traced_by_workers s net records names p (run, over, is) =
    let q : Printout = ended (printed names is.items) (ending is.items) in
    (q, printed_by_workers s net records run over names p.bytes is.items is.replays q (record { bytes_are = refl; ending_is = refl; unrefused = refl }), sym is.ending_is)

-- WHERE THE FILES ARE TOLD
if_input : {A : Type 0} (told : Option A) (P Q : A → Type 0) → ((a : A) → P a → Q a) → IfSome told P → IfSome told Q
if_input None P Q f p = tt
if_input (Some a) P Q f p = f a p

module _ (limits : Limits) (source input : Option (List ℕ)) (text : List ℕ) (p : Printout) where
  pub replay_is_of_run : FindsReplay limits source input (Some text) (Ok p) → Finds WithWorkers limits source input (Ok p)
  replay_is_of_run =
      if_input source
      (λ bytes. (program : Program) × IsAccepted bytes program
      × IfSome input (λ more. (length more ≤ INPUT_LIMIT) × (file : Input) × IsTypedFile program.names program.claim more file × PlayedFrom (Some text) (setting program limits) program.claim.net file.records file.names p))
      (λ bytes. (program : Program) × IsAccepted bytes program × IfSome input (λ more. Prints WithWorkers limits program more p))
      (λ bytes f. (
        f.0,
        f.1,
        if_input input
            (λ more. (length more ≤ INPUT_LIMIT) × (file : Input) × IsTypedFile f.0.names f.0.claim more file × PlayedFrom (Some text) (setting f.0 limits) f.0.claim.net file.records file.names p)
            (λ more. Prints WithWorkers limits f.0 more p)
            (λ more t. record { within = t.0; input = t.1; typed = t.2; shown = played_by_workers text (setting f.0 limits) f.0.claim.net t.1.records t.1.names p t.3.1 }) f.2,
      ))

module _ (limits : Limits) (bytes more : List ℕ) (p : Printout) where
  -- what a run wrote of itself is replayed, and ends as it did
  pub replayed : length p.bytes ≤ TRACE_LIMIT → Finds Traced limits (Some bytes) (Some more) (Ok p)
      → (q : Printout) × FindsReplay limits (Some bytes) (Some more) (Some p.bytes) (Ok q) × (q.ending ≡ p.ending)
  replayed short (program, accepted, prints) =
      let traced = prints.shown in
      let q : Printout = ended (printed prints.input.names traced.2.items) (ending traced.2.items) in (
        q,
        (
          program,
          accepted,
          (
            prints.within,
            prints.input,
            prints.typed,
            (short, (traced.0, traced.1, record { items = traced.2.items; replays = traced.2.replays; shown = record { bytes_are = refl; ending_is = refl; unrefused = refl } })),
          ),
        ),
        sym traced.2.ending_is,
      )
