-- A long input, read piece by piece: what each call leaves, and what all of them come to.
use Rattle.std.proofs.Common.{◌≡◌, ◌≢◌, ◌∙◌, ℕ, ◌+◌, ◌-◌, ◌≤◌, ◌<◌, Bool, true, false, nat_lt, le-ltb, lt-ltb, ltb-false, ltb-true, ◌==◌, eqb-true, List, [], ◌++◌, length, map, min, take, drop, refl, sym, ap, subst, append-nil, inr, arith}
use Rattle.std.specs.Prelude.{Option, None, Some, IfErr, IfOk, IfSome, Result, ◌↔◌}
use Rattle.std.proofs.lemmas.Result.{IfErr-weaker, IfOk-weaker}
use Rattle.std.proofs.lemmas.List.{drop-take, length-take, map-append, length-drop, nil_from_length, take-append-drop, take-take, take_min}
use Rattle.std.proofs.lemmas.Bool.{eqb-false}
use Rattle.std.proofs.lemmas.Option.{none-some}
use mathlib.Core.Logic.{∥∥₁_elim, ∥∥₁_map, ∥∥₁_prop}
use Rattle.std.specs.List.{AllByRecursion as Each}
use Rattle.sn_io.specs.Causes.{Rose}
use Rattle.sn_io.specs.Told.{appended, AppendsPrefix}
use Rattle.sn_io.proofs.Told.{appended_none, appended_twice, prefix_after}
use Rattle.sn_record.specs.declared.item.Fault.{Fault}
use Rattle.sn_record.specs.declared.item.Item.{Item}
use Rattle.sn_net.specs.declared.net.Claim.{Claim}
use Rattle.sn_net.specs.Item.{modelled}
use Rattle.sn_model.specs.declared.run.Run.{Run}
use Rattle.sn_model.specs.Run.{boxes_of, depth_of, fuel_of, net_of}
use Rattle.sn_load.specs.Load.{Limits}
use Rattle.sn_load.specs.declared.load.Program.{Program}
use Rattle.sn_labels.proofs.Records.{each_both}
use Rattle.sn_labels.specs.Flowing.{ItemHasOnly}
use Rattle.sn_pieces.specs.declared.cause.LineCause.{LineCause}
use Rattle.sn_pieces.specs.Known.{is_known}
use Rattle.sn_pieces.specs.Reader.{Begins}
use Rattle.sn_feed.specs.declared.feed.Feed.{Feed}
use Rattle.sn_feed.specs.declared.feed.TheConstants.{MOST_INPUT}
use Rattle.sn_feed.specs.declared.stop.FeedStop.{FeedStop}
use Rattle.sn_feed.specs.declared.stop.FeedStop.TheVariants as feed_stop
use Rattle.sn_feed.specs.Going.{Given}
use Rattle.sn_feed.specs.Known.{KnowsItems}
use Rattle.sn_feed.specs.Still.{IsAnswer, Still, StopsAtEnd, StopsFeed, ends, is_of, names_of, refuses}
use Rattle.sn_feed.proofs.Knowing.{items_later}
use Rattle.sn_feed.proofs.Whole.{still_begins}
use Rattle.sn_output.specs.Printed.{ending, printed}
use Rattle.sn_stop.specs.declared.refusal.Refusal.{Refusal}
use Rattle.sn_stop.specs.declared.refusal.Refusal.TheVariants.{TooLarge}
use Rattle.sn_stop.specs.declared.refusal.Which.TheVariants.{Input}
use Rattle.sn_stop.specs.declared.stop.Stop.{Stop}
use Rattle.sn_stop.specs.declared.stop.Stop.TheVariants.{Refused, Faulted, Unread, Memory, Write}
use Rattle.sn_plain.specs.Feeding.{Fed, IsFed, IsFedInPart, fed_by, fed_of, refused_behind}
use Rattle.sn_plain.specs.Pieces.{BeginsFed, CameThrough, CameToEnd, HasFed, IsFedSoFar, IsToldStop, Starts, ToldAtLine, WhyEndStopped, WhyNotFed, WhyPartUnread, WhyPieceStopped}
use Rattle.sn_plain.specs.Runs.{GotPart, Printout, WhyCutOff, cut_by, ended}
use Rattle.sn_plain.specs.Seen.{File, Sink, SinkFailed}
use Rattle.sn_plain.proofs.Answered.{Answers, always_refused, at_end, ended_answer, faulted, in_part, next_answers, printout, refused_answer, some_line, too_large}
use Rattle.sn_plain.proofs.Longer.{printed_later}
use Rattle.sn_plain.proofs.Running.{ending_behind, printed_behind}
use Rattle.sn_plain.proofs.Serving.{if_told}

-- ---- parts of the input

take_add : {A : Type 0} (n m : ℕ) (xs : List A) → take (n + m) xs ≡ take n xs ++ take m (drop n xs)
take_add n m xs = sym (take-append-drop n (take (n + m) xs)) ∙ (λ i. take-take n (n + m) xs (omega arith) i ++ drop-take n m xs i)

-- so many as are there
as_many : {A : Type 0} (n : ℕ) (xs : List A) → take (length (take n xs)) xs ≡ take n xs
as_many n xs = ap (λ k. take k xs) (length-take n xs) ∙ take_min n xs

-- the bytes that were taken, and those of the next part
pub more_taken : (bytes taken part : List ℕ) (from most : ℕ) → taken ≡ take from bytes → part ≡ take most (drop from bytes) → taken ++ part ≡ take (from + length part) bytes
more_taken bytes taken part from most is next =
    (λ i. is i ++ next i) ∙ ap (λ xs. take from bytes ++ xs) (sym (as_many most (drop from bytes)) ∙ ap (λ k. take k (drop from bytes)) (sym (ap length next))) ∙ sym (take_add from (length part) bytes)

nothing_taken : {A : Type 0} (most : ℕ) (xs : List A) → 0 < most → [] ≡ take most xs → xs ≡ []
nothing_taken most xs some none =
    let count : min most (length xs) ≡ 0 = sym (length-take most xs) ∙ sym (ap length none) in
    nil_from_length xs (omega (arith, count, some))

-- all was taken
pub all_taken : (bytes : List ℕ) (from most : ℕ) → 0 < most → [] ≡ take most (drop from bytes) → take from bytes ≡ bytes
all_taken bytes from most some none =
    sym (append-nil (take from bytes)) ∙ ap (λ xs. take from bytes ++ xs) (sym (nothing_taken most (drop from bytes) some none)) ∙ take-append-drop from bytes

all_few : (bytes : List ℕ) (from : ℕ) → from ≤ MOST_INPUT → take from bytes ≡ bytes → length bytes ≤ MOST_INPUT
all_few bytes from within all =
    let count : min from (length bytes) ≡ length bytes = sym (length-take from bytes) ∙ ap length all in
    omega (arith, count, within)

-- some is left
pub many_left : (bytes part : List ℕ) (from most : ℕ) → 0 < length part → part ≡ take most (drop from bytes) → from < length bytes
many_left bytes part from most some is =
    let count : length part ≡ min most (length bytes - from) = ap length is ∙ length-take most (drop from bytes) ∙ ap (min most) (length-drop from bytes) in
    omega (arith, count, some)

if_both : {A : Type 0} (told : Option A) (P Q R : A → Type 0) → ((a : A) → P a → Q a → R a) → IfSome told P → IfSome told Q → IfSome told R
if_both None P Q R f p q = tt
if_both (Some a) P Q R f p q = f a p q

-- nothing is refused
none_behind : (end : Option Fault) (large : Bool) → large ≡ false → refused_behind end None large ≡ None
none_behind (Some fault) large small = refl
none_behind None large small = ap (refused_behind None None) small

known_both : (names : List (List ℕ)) (xs ys : List Item) → KnowsItems names xs → KnowsItems names ys → KnowsItems names (xs ++ ys)
known_both names xs ys first second =
    subst (λ items. ∥ Each (ItemHasOnly (is_known names)) items ∥₁) (sym (map-append modelled xs ys))
    (∥∥₁_elim first ∥∥₁_prop (λ one. ∥∥₁_map second (λ two. each_both (ItemHasOnly (is_known names)) (map modelled xs) (map modelled ys) one two)))

module _ (run : Run) (claim : Claim) (names : List (List ℕ)) (input : File) (out : Sink) where
  abbrev fed : Fed
  fed = fed_by run claim names

  -- it is the bytes and the end alone that are told of what is begun
  same_part : (bytes : List ℕ) (p q : Printout) → p.bytes ≡ q.bytes → p.ending ≡ q.ending → IsFedInPart fed bytes p → IsFedInPart fed bytes q
  same_part bytes p q text end is = record {
    lines = is.lines;
    behind = is.behind;
    first = is.first;
    reading = is.reading;
    reads = is.reads;
    bytes_are = sym text ∙ is.bytes_are;
    ending_is = sym end ∙ is.ending_is;
  }

  -- ---- the bytes that were read so far
  module _ (from : ℕ) (now : Option (List ℕ)) (feed : Feed) (at : IsFedSoFar run claim names input.told from out.before now feed) where
    abbrev printed_so_far : Printout
    printed_so_far = ended (printed (names_of feed) (map modelled at.items)) (ending (map modelled at.items))

    begins_so_far : BeginsFed fed input printed_so_far
    begins_so_far =
        if_told input.told (λ t. at.taken ≡ take from t) (λ t. IsFedInPart fed t printed_so_far)
        (λ t is. in_part run claim names at.taken feed at.items at.answers t from at.within is) at.told_are

    pub left : out.now ≡ now → GotPart (BeginsFed fed input) out
    left same =
        inr ∣ (printed_so_far, begins_so_far, record { piece = printed_so_far.bytes; rest = []; whole = append-nil printed_so_far.bytes; held = same ∙ at.held }) ∣₁

    -- the next part was not read
    pub not_read : (part : File) → part.faults_now ≡ input.faults_now → input.faults_before ≤ part.faults_before → out.now ≡ now → (why : Stop) → WhyPartUnread part why → WhyNotFed fed input out why
    not_read part faults later same (Refused refusal) why = absurd why
    not_read part faults later same (Faulted fault) why = absurd why
    not_read part faults later same (Unread which) why =
        let rose : Rose input.faults_before input.faults_now = omega (arith, why.1) in
        (why.0, rose, left same)
    not_read part faults later same Memory why = left same
    not_read part faults later same Write why = absurd why

    -- the input is too long
    pub refused_large : (part : List ℕ) (most : ℕ) → from ≡ MOST_INPUT → 0 < length part → IfSome input.told (λ t. part ≡ take most (drop from t)) → out.now ≡ now → WhyNotFed fed input out (Refused (TooLarge Input))
    refused_large part most full some told same = (
      printed_so_far.bytes,
      if_both input.told (λ t. at.taken ≡ take from t) (λ t. part ≡ take most (drop from t)) (λ t. IsFed fed t (cut_by printed_so_far.bytes (TooLarge Input)))
          (λ t is next.
          let many : MOST_INPUT < length t = subst (λ n. n < length t) full (many_left t part from most some next) in
          let large : nat_lt MOST_INPUT (length t) ≡ true = lt-ltb MOST_INPUT (length t) many in
          let refused = ap (λ end. refused_behind end None (nat_lt MOST_INPUT (length t))) at.going ∙ ap (refused_behind None None) large in
          subst (IsFed fed t) (λ i. record { bytes = printed_so_far.bytes; ending = at.going i; refused = refused i })
          (too_large run claim names at.taken feed at.items at.answers t from at.within is full many)) at.told_are told,
      same ∙ at.held,
    )

    -- what more items print; the names are those so far, and maybe others behind them
    module _ (all : List (List ℕ)) (came : List Item) (begins : Begins (names_of feed) all) where
      text_then : printed all (map modelled (at.items ++ came)) ≡ printed (names_of feed) (map modelled at.items) ++ printed all (map modelled came)
      text_then =
          ap (printed all) (map-append modelled at.items came) ∙ printed_behind all at.items (map modelled came) at.going
          ∙ ap (λ text. text ++ printed all (map modelled came)) (printed_later (names_of feed) all (map modelled at.items) begins at.known)

      end_then : ending (map modelled (at.items ++ came)) ≡ ending (map modelled came)
      end_then = ap ending (map-append modelled at.items came) ∙ ending_behind at.items (map modelled came) at.going

      module _ (mid : Sink) (was : mid.before ≡ now) (is_now : mid.now ≡ out.now) where
        held_then : mid.now ≡ appended mid.before (printed all (map modelled came)) → out.now ≡ appended out.before (printed all (map modelled (at.items ++ came)))
        held_then whole =
            sym is_now ∙ whole ∙ ap (λ held. appended held (printed all (map modelled came))) (was ∙ at.held)
            ∙ appended_twice out.before (printed (names_of feed) (map modelled at.items)) (printed all (map modelled came)) ∙ ap (appended out.before) (sym text_then)

        cut_then : AppendsPrefix mid.before mid.now (printed all (map modelled came)) → AppendsPrefix out.before out.now (printed all (map modelled (at.items ++ came)))
        cut_then part =
            subst (AppendsPrefix out.before out.now) (sym text_then)
            (prefix_after out.before now out.now (printed (names_of feed) (map modelled at.items)) (printed all (map modelled came)) at.held
            (subst (λ (h : Option (List ℕ) × Option (List ℕ)). AppendsPrefix h.0 h.1 (printed all (map modelled came))) (λ i. (was i, is_now i)) part))

    -- what is printed of an answer whose items come behind those so far
    module _ (mid : Sink) (was : mid.before ≡ now) (is_now : mid.now ≡ out.now) (before : out.faults_before ≤ mid.faults_before) (behind : mid.faults_now ≡ out.faults_now) where
      sink_failed : SinkFailed mid → SinkFailed out
      sink_failed rose = omega (arith, rose)

      -- the answer is begun where it is not printed to its end
      part_begins : (number : ℕ) (cause : LineCause) (came : List Item) (all : List (List ℕ)) → IfSome input.told (λ t. IsFed fed t (printout run claim names t (refuses number cause (at.items ++ came) all)))
          → BeginsFed fed input (ended (printed all (map modelled (at.items ++ came))) (ending (map modelled (at.items ++ came))))
      part_begins number cause came all answer =
          let p = ended (printed all (map modelled (at.items ++ came))) (ending (map modelled (at.items ++ came))) in
          if_told input.told (λ t. IsFed fed t (printout run claim names t (refuses number cause (at.items ++ came) all))) (λ t. IsFedInPart fed t p) (λ t is. same_part t (printout run claim names t (refuses number cause (at.items ++ came) all)) p refl refl is.part) answer

      -- all that a refused line leaves
      told_at_line : (number : ℕ) (cause : LineCause) (came : List Item) (all : List (List ℕ)) → Begins (names_of feed) all → IfSome input.told (λ t. IsFed fed t (printout run claim names t (refuses number cause (at.items ++ came) all)))
          → (why : Stop) → ToldAtLine number cause (map modelled came) all mid why → WhyNotFed fed input out why
      told_at_line number cause came all begins answer (Refused refusal) told = (
        printed all (map modelled (at.items ++ came)),
        if_told input.told (λ t. IsFed fed t (printout run claim names t (refuses number cause (at.items ++ came) all))) (λ t. IsFed fed t (cut_by (printed all (map modelled (at.items ++ came))) refusal))
            (λ t is.
            let end = end_then all came begins ∙ told.1 in
            let refused = ap (λ e. refused_behind e (some_line number cause) (nat_lt MOST_INPUT (length t))) end ∙ ap (λ (r : Refusal). Some r) (sym told.0) in
            subst (IsFed fed t) (λ i. record { bytes = printed all (map modelled (at.items ++ came)); ending = end i; refused = refused i }) is) answer,
        held_then all came begins mid was is_now told.2,
      )
      told_at_line number cause came all begins answer (Faulted fault) told = (
        printed all (map modelled (at.items ++ came)),
        if_told input.told (λ t. IsFed fed t (printout run claim names t (refuses number cause (at.items ++ came) all))) (λ t. IsFed fed t (ended (printed all (map modelled (at.items ++ came))) (Some fault)))
            (λ t is.
            let end = end_then all came begins ∙ told.0 in
            let refused = ap (λ e. refused_behind e (some_line number cause) (nat_lt MOST_INPUT (length t))) end in
            subst (IsFed fed t) (λ i. record { bytes = printed all (map modelled (at.items ++ came)); ending = end i; refused = refused i }) is) answer,
        held_then all came begins mid was is_now told.1,
      )
      told_at_line number cause came all begins answer (Unread which) told = absurd told
      told_at_line number cause came all begins answer Memory told =
          inr ∣ (
            ended (printed all (map modelled (at.items ++ came))) (ending (map modelled (at.items ++ came))),
            part_begins number cause came all answer,
            cut_then all came begins mid was is_now told,
          ) ∣₁
      told_at_line number cause came all begins answer Write told = (
        sink_failed told.0,
        ∣ (
          ended (printed all (map modelled (at.items ++ came))) (ending (map modelled (at.items ++ came))),
          part_begins number cause came all answer,
          cut_then all came begins mid was is_now told.1,
        ) ∣₁,
      )

      -- the items of a feed that went on were cut off
      cut_short : (taken : List ℕ) (count : ℕ) (next : Feed) (came : List Item) → Begins (names_of feed) (names_of next) → Answers run claim names taken next (at.items ++ came) → count ≤ MOST_INPUT
          → IfSome input.told (λ t. taken ≡ take count t) → (why : Stop) → WhyCutOff mid (printed (names_of next) (map modelled came)) why → WhyNotFed fed input out why
      cut_short taken count next came begins answers within told (Refused refusal) cut = absurd cut
      cut_short taken count next came begins answers within told (Faulted fault) cut = absurd cut
      cut_short taken count next came begins answers within told (Unread which) cut = absurd cut
      cut_short taken count next came begins answers within told Memory cut =
          let p = ended (printed (names_of next) (map modelled (at.items ++ came))) (ending (map modelled (at.items ++ came))) in
          inr ∣ (
            p,
            if_told input.told (λ t. taken ≡ take count t) (λ t. IsFedInPart fed t p) (λ t is. in_part run claim names taken next (at.items ++ came) answers t count within is) told,
            cut_then (names_of next) came begins mid was is_now cut,
          ) ∣₁
      cut_short taken count next came begins answers within told Write cut =
          let p = ended (printed (names_of next) (map modelled (at.items ++ came))) (ending (map modelled (at.items ++ came))) in (
            sink_failed cut.0,
            ∣ (
              p,
              if_told input.told (λ t. taken ≡ take count t) (λ t. IsFedInPart fed t p) (λ t is. in_part run claim names taken next (at.items ++ came) answers t count within is) told,
              cut_then (names_of next) came begins mid was is_now cut.1,
            ) ∣₁,
          )

      -- ---- a piece
      module _ (part : List ℕ) (most : ℕ) (told_part : IfSome input.told (λ t. part ≡ take most (drop from t))) (within : from + length part ≤ MOST_INPUT) where
        told_more : IfSome input.told (λ t. at.taken ++ part ≡ take (from + length part) t)
        told_more =
            if_both input.told (λ t. at.taken ≡ take from t) (λ t. part ≡ take most (drop from t)) (λ t. at.taken ++ part ≡ take (from + length part) t)
            (λ t is next. more_taken t at.taken part from most is next) at.told_are told_part

        module _ (next : Feed) (fault : Option Fault) (came : CameThrough run feed part mid next fault) where
          answers_then : Answers run claim names (at.taken ++ part) next (at.items ++ came.items)
          answers_then = next_answers run claim names at.taken feed at.items at.answers part next came.items came.went

          known_then : KnowsItems (names_of next) (at.items ++ came.items)
          known_then =
              known_both (names_of next) at.items came.items (items_later (names_of feed) (names_of next) came.begins at.items at.known) came.known

          pub goes_on : fault ≡ None → IsFedSoFar run claim names input.told (from + length part) out.before out.now next
          goes_on none = record {
            taken = at.taken ++ part;
            items = at.items ++ came.items;
            within = within;
            told_are = told_more;
            is = came.is;
            answers = answers_then;
            known = known_then;
            going = end_then (names_of next) came.items came.begins ∙ sym came.fault_is ∙ none;
            held = held_then (names_of next) came.items came.begins mid was is_now came.whole;
          }

          pub ends_at_fault : (found : Fault) → fault ≡ Some found → HasFed fed input out fault
          ends_at_fault found some =
              let end : ending (map modelled (at.items ++ came.items)) ≡ Some found = end_then (names_of next) came.items came.begins ∙ sym came.fault_is ∙ some in
              let text = printed (names_of next) (map modelled (at.items ++ came.items)) in (
                text,
                subst (λ e. IfSome input.told (λ t. IsFed fed t (ended text e))) (sym some)
                    (if_told input.told (λ t. at.taken ++ part ≡ take (from + length part) t) (λ t. IsFed fed t (ended text (Some found)))
                    (λ t is. faulted run claim names (at.taken ++ part) next (at.items ++ came.items) answers_then t (from + length part) within is found end) told_more),
                held_then (names_of next) came.items came.begins mid was is_now came.whole,
              )

        line_stopped : (told : FeedStop) → StopsFeed feed part told → (why : Stop) → IsToldStop told mid why → WhyNotFed fed input out why
        line_stopped feed_stop.Memory stops why told = subst (WhyNotFed fed input out) (sym told.0) (left (sym is_now ∙ told.1 ∙ was))
        line_stopped (feed_stop.Line number cause came all) stops why told =
            let given = refuses number cause (at.items ++ came) all in
            let always = always_refused run claim names at.taken feed at.items at.answers part number cause came all stops in
            let begins = still_begins feed (part ++ []) (refuses number cause came all) ((stops [] (refuses number cause came all)).1 refl) in
            told_at_line number cause came all begins
            (if_told input.told (λ t. at.taken ++ part ≡ take (from + length part) t) (λ t. IsFed fed t (printout run claim names t given))
            (λ t is. refused_answer run claim names t (at.taken ++ part) (from + length part) within is given always (λ none. none-some _ (sym none))) told_more) why told

        pub piece_stopped : (why : Stop) → WhyPieceStopped feed part mid why → WhyNotFed fed input out why
        piece_stopped why (WhyPieceStopped.at_line told stops knows is) = line_stopped told stops why is
        piece_stopped why (WhyPieceStopped.cut_off next came begins went known cut) =
            cut_short (at.taken ++ part) (from + length part) next came begins (next_answers run claim names at.taken feed at.items at.answers part next came went) within told_more why cut

      -- ---- the end
      module _ (most : ℕ) (some : 0 < most) (told_end : IfSome input.told (λ t. [] ≡ take most (drop from t))) where
        -- what an answer to all bytes prints
        whole_input : (given : Given) → IsAnswer run claim names at.taken given → IfSome input.told (λ t. IsFed fed t (printout run claim names t given))
        whole_input given answer =
            if_both input.told (λ t. at.taken ≡ take from t) (λ t. [] ≡ take most (drop from t)) (λ t. IsFed fed t (printout run claim names t given))
            (λ t is none.
            let all = all_taken t from most some none in
            ended_answer run claim names t at.taken (all_few t from at.within all) (is ∙ all) given answer) at.told_are told_end

        -- which is no longer than it may be
        whole_few : (given : Given) → given.refused ≡ None → IfSome input.told (λ t. IsFed fed t (printout run claim names t given)) → IfSome input.told (λ t. IsFed fed t (ended (printed given.names given.items) (ending given.items)))
        whole_few given none answer =
            if_both input.told (λ t. [] ≡ take most (drop from t)) (λ t. IsFed fed t (printout run claim names t given)) (λ t. IsFed fed t (ended (printed given.names given.items) (ending given.items)))
            (λ t empty is.
            let few = all_few t from at.within (all_taken t from most some empty) in
            let small : nat_lt MOST_INPUT (length t) ≡ false = le-ltb MOST_INPUT (length t) few in
            let refused = ap (λ r. refused_behind (ending given.items) r (nat_lt MOST_INPUT (length t))) none ∙ none_behind (ending given.items) (nat_lt MOST_INPUT (length t)) small in
            subst (IsFed fed t) (λ i. record { bytes = printed given.names given.items; ending = ending given.items; refused = refused i }) is) told_end answer

        -- items that come at the end
        module _ (all : List (List ℕ)) (came : List Item) (ends_so : (given : Given) → Still feed [] given ↔ (given ≡ ends all came)) where
          last : Given
          last = ends all (at.items ++ came)

          last_answer : IsAnswer run claim names at.taken last
          unfolding last
          last_answer =
              at_end run claim names at.taken feed at.items at.answers (ends all (at.items ++ came)) came (ends all came) ((ends_so (ends all came)).1 refl)
              (λ i. record { items = map-append modelled at.items came i; names = all; refused = None })

          last_fed : IfSome input.told (λ t. IsFed fed t (ended (printed all (map modelled (at.items ++ came))) (ending (map modelled (at.items ++ came)))))
          unfolding last
          last_fed = whole_few last refl (whole_input last last_answer)

          last_begins : Begins (names_of feed) all
          last_begins = still_begins feed [] (ends all came) ((ends_so (ends all came)).1 refl)

          last_cut : (why : Stop) → WhyCutOff mid (printed all (map modelled came)) why → WhyNotFed fed input out why
          last_cut (Refused refusal) cut = absurd cut
          last_cut (Faulted fault) cut = absurd cut
          last_cut (Unread which) cut = absurd cut
          last_cut Memory cut =
              let p = ended (printed all (map modelled (at.items ++ came))) (ending (map modelled (at.items ++ came))) in
              inr ∣ (p, if_told input.told (λ t. IsFed fed t p) (λ t. IsFedInPart fed t p) (λ t is. is.part) last_fed, cut_then all came last_begins mid was is_now cut) ∣₁
          last_cut Write cut =
              let p = ended (printed all (map modelled (at.items ++ came))) (ending (map modelled (at.items ++ came))) in
              (sink_failed cut.0, ∣ (p, if_told input.told (λ t. IsFed fed t p) (λ t. IsFedInPart fed t p) (λ t is. is.part) last_fed, cut_then all came last_begins mid was is_now cut.1) ∣₁)

        pub came_to_end : (fault : Option Fault) → CameToEnd feed mid fault → HasFed fed input out fault
        came_to_end fault came =
            let begins = last_begins came.names came.items came.ended_is in
            let text = printed came.names (map modelled (at.items ++ came.items)) in
            let end : ending (map modelled (at.items ++ came.items)) ≡ fault = end_then came.names came.items begins ∙ sym came.fault_is in (
              text,
              subst (λ e. IfSome input.told (λ t. IsFed fed t (ended text e))) end (last_fed came.names came.items came.ended_is),
              held_then came.names came.items begins mid was is_now came.whole,
            )

        end_line_stopped : (told : FeedStop) → StopsAtEnd feed told → (why : Stop) → IsToldStop told mid why → WhyNotFed fed input out why
        end_line_stopped feed_stop.Memory stops why told = subst (WhyNotFed fed input out) (sym told.0) (left (sym is_now ∙ told.1 ∙ was))
        end_line_stopped (feed_stop.Line number cause came all) stops why told =
            let still = (stops (refuses number cause came all)).1 refl in
            let given = refuses number cause (at.items ++ came) all in
            let answer : IsAnswer run claim names at.taken given =
            at_end run claim names at.taken feed at.items at.answers given came (refuses number cause came all) still
            (λ i. record { items = map-append modelled at.items came i; names = all; refused = some_line number cause }) in
            told_at_line number cause came all (still_begins feed [] (refuses number cause came all) still) (whole_input given answer) why told

        pub end_stopped : (why : Stop) → WhyEndStopped feed mid why → WhyNotFed fed input out why
        end_stopped why (WhyEndStopped.at_line told stops knows is) = end_line_stopped told stops why is
        end_stopped why (WhyEndStopped.cut_off all came ends_so known cut) = last_cut all came ends_so why cut

-- nothing was read yet
pub started : (run : Run) (claim : Claim) (told first : Option (List ℕ)) (feed : Feed) → Starts run claim feed → IsFedSoFar run claim (names_of feed) told 0 first first feed
started run claim told first feed starts = record {
  taken = [];
  items = [];
  within = omega arith;
  told_are = none_taken told;
  is = starts.is;
  answers = λ more given. (
    λ is. record { later = given; still = (starts.still more given).1 is; is = refl },
    λ behind. (starts.still more given).0 (subst (λ g. Still feed more g) (sym behind.is) behind.still),
  );
  known = ∣ tt ∣₁;
  going = refl;
  held = sym (appended_none first);
}
  where
    none_taken : (told : Option (List ℕ)) → IfSome told (λ bytes. [] ≡ take 0 bytes)
    none_taken None = tt
    none_taken (Some bytes) = refl

-- a place before the last
pub below : (from : ℕ) → from ≤ MOST_INPUT → from ≢ MOST_INPUT → from < MOST_INPUT
below from within other = by (nat_lt from MOST_INPUT) refl
  where
    by : (b : Bool) → nat_lt from MOST_INPUT ≡ b → from < MOST_INPUT
    by true is = ltb-true from MOST_INPUT is
    by false is = let least = ltb-false from MOST_INPUT is in absurd (other (omega (arith, least, within)))

-- how many bytes a part has
pub none_there : (part : List ℕ) (b : Bool) → b ≡ (length part == 0) → b ≡ true → [] ≡ part
none_there part b is empty = sym (nil_from_length part (eqb-true (length part) 0 (sym is ∙ empty)))

pub some_there : (part : List ℕ) (b : Bool) → b ≡ (length part == 0) → b ≡ false → 0 < length part
some_there part b is some = let other = eqb-false (length part) 0 (sym is ∙ some) in omega (arith, other)

-- a feed of the network of a program
module _ (run : Run) (program : Program) (limits : Limits) (feed : Feed) (net : net_of run ≡ program.claim.net) (boxes : boxes_of run ≡ program.boxes) (fuel : fuel_of run ≡ limits.fuel) (depth : depth_of run ≡ limits.depth)
    (is : is_of feed run) (known : names_of feed ≡ program.names) (still : (bytes : List ℕ) (given : Given) → Still feed bytes given ↔ IsAnswer run program.claim program.names bytes given) where
  starts_so : Starts run program.claim feed
  starts_so = record { is = is; still = subst (λ ns. (bytes : List ℕ) (given : Given) → Still feed bytes given ↔ IsAnswer run program.claim ns bytes given) (sym known) still }

  same_fed : fed_by run program.claim (names_of feed) ≡ fed_of limits program
  same_fed = λ i. record { setting = record { boxes = boxes i; fuel = fuel i; depth = depth i }; net = net i; input = program.claim.input; names = known i }

  pub fed_done : (input : File) (out : Sink) (result : Result (Option Fault) Stop) → IfOk result (λ fault. (claim : Claim) → Starts run claim feed → HasFed (fed_by run claim (names_of feed)) input out fault)
      → IfOk result (HasFed (fed_of limits program) input out)
  fed_done input out result done =
      IfOk-weaker result (λ fault. (claim : Claim) → Starts run claim feed → HasFed (fed_by run claim (names_of feed)) input out fault) (HasFed (fed_of limits program) input out)
      (λ fault fed. subst (λ (x : Fed). HasFed x input out fault) same_fed (fed program.claim starts_so)) done

  pub fed_stopped : (input : File) (out : Sink) (result : Result (Option Fault) Stop) → IfErr result (λ why. (claim : Claim) → Starts run claim feed → WhyNotFed (fed_by run claim (names_of feed)) input out why)
      → IfErr result (WhyNotFed (fed_of limits program) input out)
  fed_stopped input out result stopped =
      IfErr-weaker result (λ why. (claim : Claim) → Starts run claim feed → WhyNotFed (fed_by run claim (names_of feed)) input out why) (WhyNotFed (fed_of limits program) input out)
      (λ why fed. subst (λ (x : Fed). WhyNotFed x input out why) same_fed (fed program.claim starts_so)) stopped
