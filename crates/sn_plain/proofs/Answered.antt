-- What a feed gave for the first bytes of an input, as what is printed of it.
use Rattle.std.proofs.Common.{◌≡◌, ◌≢◌, ◌∙◌, ℕ, ◌≤◌, ◌<◌, Bool, true, false, nat_le, nat_lt, leb-true, leb-false, List, [], ◌++◌, length, map, take, drop, refl, sym, ap, subst, append-nil, append_assoc}
use Rattle.std.specs.Prelude.{Option, None, Some, ◌↔◌}
use Rattle.std.proofs.lemmas.List.{map-append, take-append-drop}
use Rattle.sn_record.specs.declared.item.Fault.{Fault}
use Rattle.sn_record.specs.declared.item.Item.{Item}
use Rattle.sn_net.specs.declared.net.Claim.{Claim}
use Rattle.sn_net.specs.Item.{ModelItem, modelled}
use Rattle.sn_model.specs.declared.run.Run.{Run}
use Rattle.sn_input.specs.Line.{lines_of}
use Rattle.sn_pieces.specs.Cuts.{before_last, last_line}
use Rattle.sn_pieces.specs.declared.cause.LineCause.{LineCause}
use Rattle.sn_pieces.specs.Lines.{RefusedLine}
use Rattle.sn_feed.specs.declared.feed.Feed.{Feed}
use Rattle.sn_feed.specs.declared.feed.TheConstants.{MOST_INPUT}
use Rattle.sn_feed.specs.declared.stop.FeedStop.TheVariants as feed_stop
use Rattle.sn_feed.specs.Counted.{counted, whole_lines}
use Rattle.sn_feed.specs.Going.{Given}
use Rattle.sn_feed.specs.Still.{IsAnswer, IsAnswerTo, Still, StillBehind, StopsFeed, ends, names_of, refuses}
use Rattle.sn_feed.proofs.Ended.{refused_counts, short_piece, so_far}
use Rattle.sn_output.specs.Printed.{ending, printed}
use Rattle.sn_plain.specs.Feeding.{Fed, IsFed, IsFedInPart, IsReadUp, fed_by, refused_behind}
use Rattle.sn_plain.specs.Runs.{Printout, ended}
use Rattle.sn_plain.proofs.CountedLines.{all_counted, cut_begins, cut_counted, first_counted}

-- where a line is refused
abbrev pub some_line : ℕ → LineCause → Option RefusedLine
some_line number cause = Some (record { number = number; cause = cause })

read_up : (end : Option Fault) → IsReadUp end []
read_up None = refl
read_up (Some fault) = tt

module _ (run : Run) (claim : Claim) (names : List (List ℕ)) where
  abbrev pub FedTo : Fed
  FedTo = fed_by run claim names

  -- what is printed of an answer
  abbrev pub printout : List ℕ → Given → Printout
  printout bytes given = record {
    bytes = printed given.names given.items;
    ending = ending given.items;
    refused = refused_behind (ending given.items) given.refused (nat_lt MOST_INPUT (length bytes));
  }

  -- an answer to the first of the lines that count
  module _ (bytes : List ℕ) (lines behind : List (List ℕ)) (first : counted bytes ≡ lines ++ behind) (given : Given) (is : IsAnswerTo run claim names lines given) where
    pub part_of : (p : Printout) → p.bytes ≡ printed given.names given.items → p.ending ≡ ending given.items → IsFedInPart FedTo bytes p
    part_of p text end = record {
      lines = lines;
      behind = behind;
      first = first;
      reading = is.reading;
      reads = is.reads;
      bytes_are = text ∙ (λ i. printed (is.names_are i) (is.items_are i));
      ending_is = end ∙ ap ending is.items_are;
    }

    pub at_fault : (fault : Fault) → ending given.items ≡ Some fault → IsFed FedTo bytes (ended (printed given.names given.items) (Some fault))
    at_fault fault end = record { part = part_of (ended (printed given.names given.items) (Some fault)) refl (sym end); up = tt; refused_is = refl }

  -- and to all of them
  pub whole_answer : (bytes : List ℕ) (given : Given) → IsAnswerTo run claim names (counted bytes) given → IsFed FedTo bytes (printout bytes given)
  unfolding part_of
  whole_answer bytes given is = record {
    part = part_of bytes (counted bytes) [] (sym (append-nil (counted bytes))) given is (printout bytes given) refl refl;
    up = read_up (ending given.items);
    refused_is = ap (λ refused. refused_behind (ending given.items) refused (nat_lt MOST_INPUT (length bytes))) is.refused_is;
  }

  -- ---- behind the bytes that were taken, the items stand before what the feed still gives
  abbrev pub Answers : List ℕ → Feed → List Item → Type 0
  Answers taken feed items = (more : List ℕ) (given : Given) → IsAnswer run claim names (taken ++ more) given ↔ StillBehind items feed more given

  module _ (taken : List ℕ) (feed : Feed) (items : List Item) (answers : Answers taken feed items) where
    -- items before a later answer
    behind_both : (came : List Item) (later : Given) → record later { items = map modelled items ++ (map modelled came ++ later.items) } ≡ record later { items = map modelled (items ++ came) ++ later.items }
    behind_both came later =
        ap (λ (xs : List ModelItem). record later { items = xs })
        (sym (append_assoc (map modelled items) (map modelled came) later.items) ∙ ap (λ xs. xs ++ later.items) (sym (map-append modelled items came)))

    pub next_answers : (bytes : List ℕ) (next : Feed) (came : List Item) → ((more : List ℕ) (given : Given) → Still feed (bytes ++ more) given ↔ StillBehind came next more given) → Answers (taken ++ bytes) next (items ++ came)
    next_answers bytes next came went more given = (
      λ is.
          let first = (answers (bytes ++ more) given).0 (subst (λ bs. IsAnswer run claim names bs given) (append_assoc taken bytes more) is) in
          let then = (went more first.later).0 first.still in
          record {
            later = then.later;
            still = then.still;
            is = first.is ∙ ap (λ (x : Given). record x { items = map modelled items ++ x.items }) then.is ∙ behind_both came then.later;
          },
      λ behind.
          let middle : Given = record behind.later { items = map modelled came ++ behind.later.items } in
          subst (λ bs. IsAnswer run claim names bs given) (sym (append_assoc taken bytes more))
          ((answers (bytes ++ more) given).1 (record {
            later = middle;
            still = (went more middle).1 (record { later = behind.later; still = behind.still; is = refl });
            is = behind.is ∙ sym (behind_both came behind.later);
          })),
    )

    -- a line is refused within further bytes, whatever comes
    pub always_refused : (bytes : List ℕ) (number : ℕ) (cause : LineCause) (came : List Item) (all : List (List ℕ)) → StopsFeed feed bytes (feed_stop.Line number cause came all)
        → (any : List ℕ) → IsAnswer run claim names ((taken ++ bytes) ++ any) (refuses number cause (items ++ came) all)
    always_refused bytes number cause came all stops any =
        subst (λ bs. IsAnswer run claim names bs (refuses number cause (items ++ came) all)) (sym (append_assoc taken bytes any))
        ((answers (bytes ++ any) (refuses number cause (items ++ came) all)).1 (record {
          later = refuses number cause came all;
          still = (stops any (refuses number cause came all)).1 refl;
          is = λ i. record { items = map-append modelled items came i; names = all; refused = some_line number cause };
        }))

    -- the input ends here
    pub at_end : (given : Given) (came : List Item) (later : Given) → Still feed [] later → given ≡ record later { items = map modelled items ++ later.items } → IsAnswer run claim names taken given
    at_end given came later still is =
        subst (λ bs. IsAnswer run claim names bs given) (append-nil taken) ((answers [] given).1 (record { later = later; still = still; is = is }))

    -- ---- the bytes are the first ones of an input
    module _ (bytes : List ℕ) (from : ℕ) (within : from ≤ MOST_INPUT) (is : taken ≡ take from bytes) where
      -- the lines that ended so far
      so_far_counts : (behind : List (List ℕ)) × (counted bytes ≡ before_last (lines_of taken) ++ behind)
      so_far_counts =
          let first = first_counted bytes from within in
          (first.0, first.1 ∙ ap (λ bs. before_last (lines_of bs) ++ first.0) (sym is))

      pub in_part : IsFedInPart FedTo bytes (ended (printed (names_of feed) (map modelled items)) (ending (map modelled items)))
      in_part =
          let count = so_far_counts in
          part_of bytes (before_last (lines_of taken)) count.0 count.1 (ends (names_of feed) items) (so_far run claim names taken feed items answers).answer _ refl refl

      pub faulted : (fault : Fault) → ending (map modelled items) ≡ Some fault → IsFed FedTo bytes (ended (printed (names_of feed) (map modelled items)) (Some fault))
      faulted fault end =
          let count = so_far_counts in
          at_fault bytes (before_last (lines_of taken)) count.0 count.1 (ends (names_of feed) items) (so_far run claim names taken feed items answers).answer fault end

      -- there are more than there may be
      pub too_large : from ≡ MOST_INPUT → MOST_INPUT < length bytes → IsFed FedTo bytes (printout bytes (ends (names_of feed) items))
      too_large at many =
          let answer = so_far run claim names taken feed items answers in
          let cut : taken ≡ take MOST_INPUT bytes = is ∙ ap (λ n. take n bytes) at in
          let lines : before_last (lines_of taken) ≡ counted bytes =
          sym (append-nil (before_last (lines_of taken))) ∙ ap (λ ls. before_last (lines_of taken) ++ ls) (sym (short_piece (last_line (lines_of taken)) answer.short))
          ∙ ap (λ bs. whole_lines (lines_of bs)) cut ∙ sym (cut_counted bytes many) in
          whole_answer bytes (ends (names_of feed) items) (subst (λ ls. IsAnswerTo run claim names ls (ends (names_of feed) items)) lines answer.answer)

  -- a line is refused whatever comes behind the first bytes
  pub refused_answer : (bytes taken : List ℕ) (from : ℕ) → from ≤ MOST_INPUT → taken ≡ take from bytes → (given : Given) → ((any : List ℕ) → IsAnswer run claim names (taken ++ any) given) → given.refused ≢ None
      → IsFed FedTo bytes (printout bytes given)
  refused_answer bytes taken from within is given always some = by (nat_le (length bytes) MOST_INPUT) refl
    where
      All : List (List ℕ) → Type 0
      All lines = IsAnswerTo run claim names lines given

      by : (b : Bool) → nat_le (length bytes) MOST_INPUT ≡ b → IsFed FedTo bytes (printout bytes given)
      by true few =
          let whole : taken ++ drop from bytes ≡ bytes = ap (λ bs. bs ++ drop from bytes) is ∙ take-append-drop from bytes in
          whole_answer bytes given
          (subst All (ap lines_of whole ∙ sym (all_counted bytes (leb-true (length bytes) MOST_INPUT few))) (always (drop from bytes)))
      by false many =
          let more = drop from (take MOST_INPUT bytes) in
          let whole : taken ++ more ≡ take MOST_INPUT bytes = ap (λ bs. bs ++ more) is ∙ cut_begins from bytes within in
          whole_answer bytes given
          (subst All (ap (λ bs. whole_lines (lines_of bs)) whole ∙ sym (cut_counted bytes (leb-false (length bytes) MOST_INPUT many))) (refused_counts run claim names taken more given always some))

  -- all bytes were taken
  pub ended_answer : (bytes taken : List ℕ) → length bytes ≤ MOST_INPUT → taken ≡ bytes → (given : Given) → IsAnswer run claim names taken given → IsFed FedTo bytes (printout bytes given)
  ended_answer bytes taken few is given answer =
      whole_answer bytes given (subst (λ ls. IsAnswerTo run claim names ls given) (ap lines_of is ∙ sym (all_counted bytes few)) answer)
