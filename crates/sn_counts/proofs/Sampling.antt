-- From the records of a number to what was counted, and why they were not.
use Rattle.std.proofs.Common.{◌≡◌, ℕ, zero, suc, ◌+◌, ◌<◌, ◌≤◌, IsTrue, List, ◌∷◌, length, map, drop, get_or, not, codes, refl, sym, ap, ◌∙◌, subst, inl, inr, arith}
use Rattle.std.specs.Prelude.{Option, None, Some, Result, Ok, Err, IfOk, IfErr, ◌↔◌, option_map}
use Rattle.std.proofs.lemmas.List.{drop_more, length_push}
use Rattle.std.specs.FinMap as finite
use Rattle.std.proofs.lemmas.List.Elements.{All-map, All-weaker}
use Rattle.std.proofs.lemmas.List.Quantifiers.{position-Some}
use Rattle.sn_record.specs.declared.item.Fault.{Fault}
use Rattle.sn_record.specs.declared.item.Item.{Item}
use Rattle.sn_record.specs.declared.item.Item.TheVariants as item
use Rattle.sn_names.specs.Names.{IsFull, all_entered, entered}
use Rattle.sn_names.specs.declared.fault.NamesFault.{NamesFault}
use Rattle.sn_names.specs.declared.fault.NamesFault.TheVariants as names_fault
use Rattle.sn_names.proofs.NamesLaws.{is_held-each, length-all_entered}
use Rattle.sn_net.specs.declared.expr.BoxProgram.{BoxProgram}
use Rattle.sn_net.specs.declared.net.Claim.{Claim}
use Rattle.sn_net.specs.Item.{modelled}
use Rattle.sn_typing.specs.Typed.{IsTyped}
use Rattle.sn_typing.specs.Accepted.{IsAccepted as IsAcceptedClaim}
use Rattle.sn_model.specs.declared.run.Run.{Run}
use Rattle.sn_model.specs.Meaning.{one_list}
use Rattle.sn_model.specs.Run.{boxes_of, depth_of, fuel_of, given, items_of, net_of}
use Rattle.sn_model.specs.Typed.{AreTyped}
use Rattle.sn_io.specs.Told.{AppendsPrefix}
use Rattle.sn_output.specs.Printed.{ending}
use Rattle.sn_sample.specs.Counts.{counts_of}
use Rattle.sn_sample.specs.declared.tally.Tally.{Tally}
use Rattle.sn_sample.specs.Records.{HasLabels, sample_items}
use Rattle.sn_sample.specs.Source.{source_text}
use Rattle.sn_sample.specs.Tally.{Counts, counted, counts_line}
use Rattle.sn_load.specs.declared.load.Program.{Program}
use Rattle.sn_stop.specs.declared.refusal.LineFault.TheVariants as wrong
use Rattle.sn_stop.specs.declared.refusal.Refusal.TheVariants.{TooLarge, Source as SourceAt, NoMain, TooDeep, LargeTree, TooManyNames, IllTyped, Variants, Line, Trace}
use Rattle.sn_stop.specs.declared.stop.Stop.{Stop}
use Rattle.sn_stop.specs.declared.stop.Stop.TheVariants.{Refused, Faulted, Unread, Memory, Write}
use Rattle.sn_load.specs.declared.load.TheConstants.{SOURCE_LIMIT}
use Rattle.sn_plain.specs.Seen.{Sink, SinkFailed}
use Rattle.sn_load.specs.Load.{IsLoaded}
use Rattle.sn_stop.specs.Stops.{names_stop}
use Rattle.sn_load.specs.Scope.{WhyUnloaded}
use Rattle.sn_counts.specs.declared.sample.Samples.{Samples}
use Rattle.sn_plain.specs.Sample.{answers_to, default_limits, first_untyped, is_item_of_type, label_names, names_with, records_of}
use Rattle.sn_counts.specs.Samples.{AreSamples, HasCounted, IsWrongEntry, WhyNoSamples}
use Rattle.sn_plain.specs.Answer.{FindsSample, WhyUncounted}
use Rattle.sn_plain.specs.Runs.{ended}
use Rattle.sn_load.proofs.Loading.{all_pass}
use Rattle.sn_load.proofs.Typing.{one_typed}
use Rattle.sn_plain.proofs.Serving.{accepted}

-- the names of the labels are held once they were entered
pub labels_held : (names : List (List ℕ)) → HasLabels (all_entered names label_names)
labels_held names = record {
  v = is_held-each names label_names (codes "v") refl;
  k = is_held-each names label_names (codes "k") refl;
  n = is_held-each names label_names (codes "n") refl;
}

-- a name that finds no room
too_many : (names more : List (List ℕ)) (n : List ℕ) → IsFull names n → 4096 < length (all_entered names (n ∷ more))
too_many names more n full =
    let grown : length (entered names n) ≡ length names + 1 = rw full.fresh (length_push names n) in
    omega (arith, grown, full.most, length-all_entered (entered names n) more)

pub not_entered : {A : Type 0} (start names more : List (List ℕ)) (n : List ℕ) (result : Result A NamesFault) (fault : NamesFault) → all_entered start label_names ≡ all_entered names (n ∷ more)
    → result ≡ Err fault → (result ≡ Err names_fault.TooMany) ↔ IsFull names n → IsWrongEntry start (names_stop fault)
not_entered start names more n result names_fault.TooMany same is told = (refl, subst (λ ns. 4096 < length ns) (sym same) (too_many names more n (told.0 is)))
not_entered start names more n result names_fault.Memory same is told = tt

-- the records of a number are as many as they shall be
pub as_many_samples : (names : List (List ℕ)) (number count : ℕ) → length (sample_items names number count) ≡ count
as_many_samples names number zero = refl
as_many_samples names number (suc i) = length_push (sample_items names number i) _ ∙ ap (λ n. n + 1) (as_many_samples names number i) ∙ omega arith

-- one item more of a stream
module _ (names : List (List ℕ)) (items : List Item) (i : ℕ) (x : Item) (here : x ≡ get_or items i x) (below : i < length items) where
  pub rest_is : map modelled (drop i items) ≡ modelled x ∷ map modelled (drop (i + 1) items)
  rest_is = ap (map modelled) (drop_more items i x below ∙ ap (λ y. y ∷ drop (i + 1) items) (sym here))

-- records of the input type of an accepted claim are typed for its net
module _ (boxes : List BoxProgram) (claim : Claim) (accepted : IsAcceptedClaim boxes claim) where
  item_typed : (x : Item) → IsTrue (is_item_of_type claim.input x) → IsTyped boxes claim.net (modelled x)
  item_typed (item.Rec r) is = one_typed boxes claim accepted r is
  item_typed (item.Fault fault) is = tt

  pub items_typed : (items : List Item) → first_untyped claim.input items ≡ None → AreTyped boxes claim.net items
  items_typed items none =
      ∣ All-map (IsTyped boxes claim.net) modelled items (All-weaker (λ x. IsTrue (is_item_of_type claim.input x)) (λ x. IsTyped boxes claim.net (modelled x)) item_typed items (all_pass (is_item_of_type claim.input) items none)) ∣₁

-- the names and the claim of a program, with its records
module _ (names : List (List ℕ)) (claim : Claim) (number count : ℕ) where
  -- why the names were not entered is why the records were not made
  pub no_room : (why : Stop) → IsWrongEntry names why → WhyNoSamples names claim number count why
  no_room (Refused TooManyNames) why = why.1
  no_room (Refused (TooLarge which)) why = cc
  no_room (Refused (SourceAt fault at)) why = cc
  no_room (Refused NoMain) why = cc
  no_room (Refused (TooDeep at)) why = cc
  no_room (Refused (LargeTree at)) why = cc
  no_room (Refused (IllTyped fault at variant)) why = cc
  no_room (Refused (Variants at)) why = cc
  no_room (Refused (Line fault)) why = cc
  no_room (Refused (Trace fault)) why = cc
  no_room (Faulted fault) why = absurd why
  no_room (Unread which) why = absurd why
  no_room Memory why = tt
  no_room Write why = absurd why

  module _ (more : List (List ℕ)) (entered : more ≡ names_with names) (room : length more ≤ 4096) (items : List Item) (made : items ≡ sample_items more number count) where
    items_are : items ≡ records_of names number count
    items_are = made ∙ ap (λ ns. sample_items ns number count) entered

    fits : length (names_with names) ≤ 4096
    fits = subst (λ ns. length ns ≤ 4096) entered room

    -- as many as they shall be
    few : length items ≡ count
    few = ap length made ∙ as_many_samples more number count

    pub untyped_below : (i : ℕ) → first_untyped claim.input items ≡ Some i → i < count
    untyped_below i first = subst (λ n. i < n) few (position-Some (λ x. not (is_item_of_type claim.input x)) items i (item.Rec finite.empty) first).0

    pub one_untyped : (i : ℕ) → first_untyped claim.input items ≡ Some i → WhyNoSamples names claim number count (Refused (Line (wrong.Untyped (i + 1))))
    one_untyped i first = record { room = fits; first = ap (option_map (λ n. n + 1)) (ap (first_untyped claim.input) (sym items_are) ∙ first) }

    pub samples : (s : Samples) → s.names ≡ more → s.items ≡ items → first_untyped claim.input items ≡ None → AreSamples names claim number count s
    samples s names_same items_same none = record {
      names_are = names_same ∙ entered;
      items_are = items_same ∙ items_are;
      typed = record { room = fits; typed = ap (first_untyped claim.input) (sym items_are) ∙ none };
    }

-- a run of a program over them
module _ (program : Program) (number count : ℕ) (samples : Samples) (are : AreSamples program.names program.claim number count samples) where
  pub samples_typed : IsAcceptedClaim program.boxes program.claim → AreTyped program.boxes program.claim.net samples.items
  samples_typed accepted = items_typed program.boxes program.claim accepted samples.items (ap (first_untyped program.claim.input) are.items_are ∙ are.typed.typed)

  module _ (run : Run) (net : net_of run ≡ program.claim.net) (boxes : boxes_of run ≡ program.boxes) (fuel : fuel_of run ≡ default_limits.fuel) (depth : depth_of run ≡ default_limits.depth) (items : items_of run ≡ samples.items) where
    answers_are : given run ≡ answers_to program number count
    answers_are = λ i. one_list (record { boxes = boxes i; fuel = fuel i; depth = depth i }) (net i) (map modelled ((items ∙ are.items_are) i))

    pub has_counted : (result : Result (Tally × Option Fault) Stop) → IfOk result (λ made. counts_of made.0 ≡ counted samples.names (given run)) → IfOk result (λ made. made.1 ≡ ending (given run))
        → IfOk result (λ made. HasCounted program number count (counts_of made.0) made.1)
    has_counted (Ok made) counts_are fault_is = record {
      typed = are.typed;
      counts_are = counts_are ∙ (λ i. counted (are.names_are i) (answers_are i));
      fault_is = fault_is ∙ ap ending answers_are;
    }
    has_counted (Err why) counts_are fault_is = tt

-- want of memory has no cause
pub not_finished : {A : Type 0} (names : List (List ℕ)) (claim : Claim) (number count : ℕ) (result : Result A Stop) → IfErr result (λ why. why ≡ Memory) → IfErr result (WhyNoSamples names claim number count)
not_finished names claim number count (Ok x) is = tt
not_finished names claim number count (Err why) is = subst (WhyNoSamples names claim number count) (sym is) tt

pub source_short : length source_text ≤ SOURCE_LIMIT
source_short = omega arith

-- why the built-in source gave no program
pub not_loaded : (number count : ℕ) (out : Sink) → out.now ≡ out.before → (why : Stop) → WhyUnloaded source_text why → WhyUncounted number count out why
not_loaded number count out same (Refused (TooLarge which)) why = absurd why
not_loaded number count out same (Refused (SourceAt fault at)) why = inl ((source_short, why), same)
not_loaded number count out same (Refused NoMain) why = inl ((source_short, why), same)
not_loaded number count out same (Refused (TooDeep at)) why = inl ((source_short, why), same)
not_loaded number count out same (Refused (LargeTree at)) why = inl ((source_short, why), same)
not_loaded number count out same (Refused TooManyNames) why = inl (inl (source_short, why), same)
not_loaded number count out same (Refused (IllTyped fault at variant)) why = inl ((source_short, why), same)
not_loaded number count out same (Refused (Variants at)) why = inl ((source_short, why), same)
not_loaded number count out same (Refused (Line fault)) why = absurd why
not_loaded number count out same (Refused (Trace fault)) why = absurd why
not_loaded number count out same (Faulted fault) why = absurd why
not_loaded number count out same (Unread which) why = absurd why
not_loaded number count out same Memory why = inl same
not_loaded number count out same Write why = absurd why

-- what was counted of the program of the built-in source
module _ (number count : ℕ) (out : Sink) (program : Program) (is : IsLoaded source_text program) where
  pub not_counted : out.now ≡ out.before → (why : Stop) → WhyNoSamples program.names program.claim number count why → WhyUncounted number count out why
  not_counted same (Refused (TooLarge which)) why = absurd why
  not_counted same (Refused (SourceAt fault at)) why = absurd why
  not_counted same (Refused NoMain) why = absurd why
  not_counted same (Refused (TooDeep at)) why = absurd why
  not_counted same (Refused (LargeTree at)) why = absurd why
  not_counted same (Refused TooManyNames) why = inl (inr (program, accepted source_text program is source_short, why), same)
  not_counted same (Refused (IllTyped fault at variant)) why = absurd why
  not_counted same (Refused (Variants at)) why = absurd why
  not_counted same (Refused (Line fault)) why = inl ((program, accepted source_text program is source_short, why), same)
  not_counted same (Refused (Trace fault)) why = absurd why
  not_counted same (Faulted fault) why = absurd why
  not_counted same (Unread which) why = absurd why
  not_counted same Memory why = inl same
  not_counted same Write why = absurd why

  module _ (counts : Counts) (fault : Option Fault) (has : HasCounted program number count counts fault) where
    -- the line, and the fault, by how it ends
    pub finds_line : (end : Option Fault) → fault ≡ end → FindsSample number count (Ok (ended (counts_line counts) end))
    finds_line end is_end = (program, accepted source_text program is source_short, record { typed = has.typed; bytes_are = ap counts_line has.counts_are; ending_is = sym is_end ∙ has.fault_is; unrefused = refl })

    pub line_cut : AppendsPrefix out.before out.now (counts_line counts) → SinkFailed out → WhyUncounted number count out Write
    line_cut part failed = (failed, ∣ (ended (counts_line counts) fault, finds_line fault refl, part) ∣₁)
