-- What a run prints, record by record.
use Rattle.std.proofs.Common.{◌≡◌, ℕ, true, List, [], ◌∷◌, ◌++◌, map, refl, sym, ap, ◌∙◌, subst, subst₂, append-nil, append_assoc, inr}
use Rattle.std.specs.Prelude.{Option, None, Some, is_some, Result, Ok, Err, IfOk, IfErr, OnOk}
use Rattle.std.specs.List.{All}
use Rattle.std.proofs.lemmas.List.{map-append}
use Rattle.std.proofs.lemmas.List.Elements.{All-head, All-tail}
use mathlib.Core.Logic.{∥∥₁_map}
use Rattle.sn_typing.specs.Typed.{IsTyped}
use Rattle.sn_record.specs.Record.{Entries}
use Rattle.sn_record.specs.declared.item.Fault.{Fault}
use Rattle.sn_record.specs.declared.item.Item.{Item}
use Rattle.sn_record.specs.declared.item.Item.TheVariants as item
use Rattle.sn_net.specs.declared.expr.BoxProgram.{BoxProgram}
use Rattle.sn_net.specs.declared.net.Net.{Net}
use Rattle.sn_net.specs.Item.{ModelItem, Rec, modelled}
use Rattle.sn_model.specs.declared.run.Run.{Run}
use Rattle.sn_model.specs.Meaning.{one_list}
use Rattle.sn_model.specs.Run.{boxes_of, depth_of, fuel_of, net_of, setting_of}
use Rattle.sn_model.specs.Typed.{FitsNet}
use Rattle.sn_io.specs.Told.{appended, AppendsPrefix}
use Rattle.sn_io.proofs.Told.{appended_twice, prefix_after, prefix_before}
use Rattle.sn_output.specs.Line.{line}
use Rattle.sn_output.specs.Printed.{printed, ending}
use Rattle.sn_stop.specs.declared.stop.Stop.{Stop}
use Rattle.sn_stop.specs.declared.stop.Stop.TheVariants.{Refused, Faulted, Unread, Memory, Write}
use Rattle.sn_load.specs.Load.{AreTypedRecords, Limits}
use Rattle.sn_plain.specs.Ready.{setting_at}
use Rattle.sn_plain.specs.Runs.{HasBegun, HasPrinted, OnOneThread, Printout, WhyCutOff, WhyUnfinished, ended}
use Rattle.sn_plain.specs.declared.ready.Ready.{Ready}
use Rattle.sn_plain.specs.Seen.{Sink}

module _ (names : List (List ℕ)) where
  -- what follows items that no fault ends
  pub printed_behind : (before : List Item) (more : List ModelItem) → ending (map modelled before) ≡ None → printed names (map modelled before ++ more) ≡ printed names (map modelled before) ++ printed names more
  printed_behind [] more none = refl
  printed_behind (item.Rec r ∷ before) more none =
      ap (λ bytes. line names r ++ bytes) (printed_behind before more none) ∙ sym (append_assoc (line names r) (printed names (map modelled before)) (printed names more))
  printed_behind (item.Fault fault ∷ before) more none = cc

  -- and what follows a fault
  printed_closed : (before : List Item) (more : List ModelItem) (fault : Fault) → ending (map modelled before) ≡ Some fault → printed names (map modelled before ++ more) ≡ printed names (map modelled before)
  printed_closed [] more fault some = cc
  printed_closed (item.Rec r ∷ before) more fault some = ap (λ bytes. line names r ++ bytes) (printed_closed before more fault some)
  printed_closed (item.Fault at ∷ before) more fault some = refl

  -- the lines of the first items are the first lines, whatever follows
  printed_first : (given : List Item) (more : List ModelItem) → (rest : List ℕ) × (printed names (map modelled given ++ more) ≡ printed names (map modelled given) ++ rest)
  printed_first [] more = (printed names more, refl)
  printed_first (item.Rec r ∷ given) more =
      let first = printed_first given more in
      (first.0, ap (λ bytes. line names r ++ bytes) first.1 ∙ sym (append_assoc (line names r) (printed names (map modelled given)) first.0))
  printed_first (item.Fault at ∷ given) more = ([], refl)

pub ending_behind : (before : List Item) (more : List ModelItem) → ending (map modelled before) ≡ None → ending (map modelled before ++ more) ≡ ending more
ending_behind [] more none = refl
ending_behind (item.Rec r ∷ before) more none = ending_behind before more none
ending_behind (item.Fault fault ∷ before) more none = cc

ending_closed : (before : List Item) (more : List ModelItem) (fault : Fault) → ending (map modelled before) ≡ Some fault → ending (map modelled before ++ more) ≡ Some fault
ending_closed [] more fault some = cc
ending_closed (item.Rec r ∷ before) more fault some = ending_closed before more fault some
ending_closed (item.Fault at ∷ before) more fault some = some

-- the items so far, which no fault ends, and what follows; `first` is what was held before them, `now` what is held behind them
module _ (names : List (List ℕ)) (stream : List ModelItem) (before : List Item) (rest : List ModelItem) (going : ending (map modelled before) ≡ None) (is : stream ≡ map modelled before ++ rest)
    (first now : Option (List ℕ)) (held : now ≡ appended first (printed names (map modelled before))) where
  all_printed : printed names stream ≡ printed names (map modelled before) ++ printed names rest
  all_printed = ap (printed names) is ∙ printed_behind names before rest going

  -- so far first bytes of the whole are held
  pub begun : AppendsPrefix first now (printed names stream)
  begun = record { piece = printed names (map modelled before); rest = printed names rest; whole = sym all_printed; held = held }

  -- nothing follows
  pub printed_all : rest ≡ [] → now ≡ appended first (printed names stream)
  printed_all none = held ∙ ap (appended first) (sym (all_printed ∙ ap (λ xs. printed names (map modelled before) ++ printed names xs) none ∙ append-nil (printed names (map modelled before))))

  pub ended_none : rest ≡ [] → None ≡ ending stream
  ended_none none = sym (ap ending is ∙ ending_behind before rest going ∙ ap ending none)

  module _ (given : List Item) (later : List ModelItem) (fed : rest ≡ map modelled given ++ later) (text : List ℕ) (fault : Option Fault) (shown : text ≡ printed names (map modelled given)) (ended : fault ≡ ending (map modelled given)) where
    rest_printed : (more : List ℕ) × (printed names stream ≡ (printed names (map modelled before) ++ text) ++ more)
    rest_printed =
        let follows = printed_first names given later in (
          follows.0,
          all_printed ∙ ap (λ bytes. printed names (map modelled before) ++ bytes) (ap (printed names) fed ∙ follows.1 ∙ ap (λ t. t ++ follows.0) (sym shown))
              ∙ sym (append_assoc (printed names (map modelled before)) text follows.0),
        )

    -- the lines of the items were cut off
    pub cut : (after : Option (List ℕ)) → AppendsPrefix now after text → AppendsPrefix first after (printed names stream)
    cut after part = subst (AppendsPrefix first after) (sym rest_printed.1) (prefix_before first after (printed names (map modelled before) ++ text) rest_printed.0 (prefix_after first now after (printed names (map modelled before)) text held part))

    with_text : (after : Option (List ℕ)) → after ≡ appended now text → after ≡ appended first (printed names (map modelled before) ++ text)
    with_text after wrote = wrote ∙ ap (λ h. appended h text) held ∙ appended_twice first (printed names (map modelled before)) text

    -- a fault is among them
    pub closed_printed : (after : Option (List ℕ)) (at : Fault) → after ≡ appended now text → fault ≡ Some at → after ≡ appended first (printed names stream)
    closed_printed after at wrote some =
        with_text after wrote
        ∙ ap (appended first) (sym (all_printed ∙ ap (λ bytes. printed names (map modelled before) ++ bytes) (ap (printed names) fed ∙ printed_closed names given later at (sym ended ∙ some) ∙ sym shown)))

    pub closed_ended : (at : Fault) → fault ≡ Some at → fault ≡ ending stream
    closed_ended at some = some ∙ sym (ap ending is ∙ ending_behind before rest going ∙ ap ending fed ∙ ending_closed given later at (sym ended ∙ some))

    -- no fault is among them
    module _ (none : fault ≡ None) where
      pub still_going : ending (map modelled (before ++ given)) ≡ None
      still_going = ap ending (map-append modelled before given) ∙ ending_behind before (map modelled given) going ∙ sym ended ∙ none

      pub stream_so_far : stream ≡ map modelled (before ++ given) ++ later
      stream_so_far = is ∙ ap (λ xs. map modelled before ++ xs) fed ∙ sym (append_assoc (map modelled before) (map modelled given) later) ∙ ap (λ xs. xs ++ later) (sym (map-append modelled before given))

      pub held_so_far : (after : Option (List ℕ)) → after ≡ appended now text → after ≡ appended first (printed names (map modelled (before ++ given)))
      held_so_far after wrote =
          with_text after wrote
          ∙ ap (appended first) (sym (ap (printed names) (map-append modelled before given) ∙ printed_behind names before (map modelled given) going ∙ ap (λ t. printed names (map modelled before) ++ t) (sym shown)))

-- the records that are left, one by one
module _ (boxes : List BoxProgram) (net : Net) (records left : List Entries) (r : Entries) (is : records ≡ r ∷ left) (typed : AreTypedRecords boxes net records) where
  pub first_typed : FitsNet boxes net (item.Rec r)
  first_typed = ∥∥₁_map typed (λ all. All-head (IsTyped boxes net) (Rec r) (map Rec left) (subst (λ (rs : List Entries). All (IsTyped boxes net) (map Rec rs)) is all))

  pub rest_typed : AreTypedRecords boxes net left
  rest_typed = ∥∥₁_map typed (λ all. All-tail (IsTyped boxes net) (Rec r) (map Rec left) (subst (λ (rs : List Entries). All (IsTyped boxes net) (map Rec rs)) is all))

-- a fault is there
pub some_ended : (fault : Option Fault) → is_some fault ≡ true → (at : Fault) × (fault ≡ Some at)
some_ended None is = cc
some_ended (Some at) is = (at, refl)

-- a run made of what is ready
module _ (run : Run) (limits : Limits) (ready : Ready) (net : net_of run ≡ ready.net) (boxes : boxes_of run ≡ ready.boxes) (fuel : fuel_of run ≡ limits.fuel) (depth : depth_of run ≡ limits.depth) where
  pub run_typed : AreTypedRecords ready.boxes ready.net ready.records → AreTypedRecords (boxes_of run) (net_of run) ready.records
  run_typed typed = subst₂ (λ (b : List BoxProgram) (n : Net). AreTypedRecords b n ready.records) (sym boxes) (sym net) typed

  abbrev pub stream : List ModelItem
  stream = one_list (setting_of run) (net_of run) (map Rec ready.records)

  stream_is : stream ≡ one_list (setting_at ready limits) ready.net (map Rec ready.records)
  stream_is = λ i. one_list (record { boxes = boxes i; fuel = fuel i; depth = depth i }) (net i) (map Rec ready.records)

  -- what is printed of its one answer is what is printed on one thread
  on_one_thread : (fault : Option Fault) → fault ≡ ending stream → OnOneThread (setting_at ready limits) ready.net ready.records ready.names (ended (printed ready.names stream) fault)
  on_one_thread fault is = record { bytes_are = ap (printed ready.names) stream_is; ending_is = is ∙ ap ending stream_is; unrefused = refl }

  module _ (out : Sink) where
    abbrev Shown : Printout → Type 0
    Shown = OnOneThread (setting_at ready limits) ready.net ready.records ready.names

    pub has_printed : (result : Result (Option Fault) Stop) → IfOk result (λ fault. fault ≡ ending stream) → OnOk result (out.now ≡ appended out.before (printed ready.names stream)) → IfOk result (HasPrinted Shown out)
    has_printed (Ok fault) end got = (printed ready.names stream, on_one_thread fault end, got)
    has_printed (Err why) end got = tt

    has_begun : AppendsPrefix out.before out.now (printed ready.names stream) → HasBegun Shown out
    has_begun part = ∣ (ended (printed ready.names stream) (ending stream), on_one_thread (ending stream) refl, part) ∣₁

    pub not_finished : (result : Result (Option Fault) Stop) → IfErr result (WhyCutOff out (printed ready.names stream)) → IfErr result (WhyUnfinished Shown out)
    not_finished (Ok fault) why = tt
    not_finished (Err (Refused refusal)) why = absurd why
    not_finished (Err (Faulted fault)) why = absurd why
    not_finished (Err (Unread which)) why = absurd why
    not_finished (Err Memory) why = inr (has_begun why)
    not_finished (Err Write) why = (why.0, has_begun why.1)
