-- What the lines that ended give.
use Rattle.std.proofs.Common.{◌≡◌, ◌≢◌, ◌∙◌, ℕ, zero, suc, ◌<◌, ◌≤◌, Bool, true, false, cond, List, [], ◌∷◌, ◌++◌, map, length, length-append, replicate, nat_lt, ltb-false, ltb-true, refl, sym, ap, subst, append-nil, append_assoc, arith}
use Rattle.std.specs.Prelude.{None, Some, ◌↔◌}
use Rattle.std.proofs.lemmas.List.{length-replicate}
use Rattle.sn_record.specs.declared.item.Item.{Item}
use Rattle.sn_net.specs.declared.net.Claim.{Claim}
use Rattle.sn_net.specs.Item.{Rec, modelled}
use Rattle.sn_model.specs.declared.run.Run.{Run}
use Rattle.sn_model.specs.Meaning.{one_list}
use Rattle.sn_model.specs.Run.{net_of, setting_of}
use Rattle.sn_input.specs.Line.{lines_of}
use Rattle.sn_pieces.specs.Cuts.{before_last, has_line_feed, last_line}
use Rattle.sn_pieces.specs.declared.cause.LineCause.TheVariants as cause
use Rattle.sn_pieces.specs.declared.reader.Reader.{Reader}
use Rattle.sn_pieces.specs.Lines.{Reading, ReadsLines, most_line, stopped}
use Rattle.sn_pieces.proofs.Cutting.{joined, last_unended, line_ends, line_stays, none_in_both}
use Rattle.sn_pieces.proofs.LineReads.{last_reads, long_reads}
use Rattle.sn_pieces.proofs.Parted.{InTurn, Parts, followed, further, never_long, parted}
use Rattle.sn_pieces.proofs.Stays.{reads_once}
use Rattle.sn_feed.specs.declared.feed.Feed.{Feed}
use Rattle.sn_feed.specs.Counted.{IsSoFar, long_piece, whole_lines}
use Rattle.sn_feed.specs.Going.{Given}
use Rattle.sn_feed.specs.Still.{IsAnswer, IsAnswerTo, StillBehind, ends}

-- a line that is too long, without a line feed
record IsLong (line : List ℕ) : Type 0 where
  long : most_line < length line
  unended : has_line_feed line ≡ false

none_replicated : (k : ℕ) → has_line_feed (replicate k 32) ≡ false
none_replicated zero = refl
none_replicated (suc k) = none_replicated k

long_line : (k : ℕ) → most_line < k → (line : List ℕ) × IsLong line
long_line k more = (replicate k 32, record { long = subst (λ n. most_line < n) (sym (length-replicate k 32)) more; unended = none_replicated k })

some_long : (line : List ℕ) × IsLong line
some_long = long_line (suc most_line) (omega arith)

-- a piece of a line, and whether it is too long
module _ (line : List ℕ) where
  abbrev is_long : Bool
  is_long = nat_lt most_line (length line)

  pub short_piece : length line ≤ most_line → long_piece line ≡ []
  short_piece short = by is_long refl
    where
      by : (b : Bool) → is_long ≡ b → cond b (line ∷ []) [] ≡ []
      by true is = let long = ltb-true most_line (length line) is in absurd (omega (arith, long, short))
      by false is = refl

  too_long_piece : most_line < length line → long_piece line ≡ line ∷ []
  too_long_piece long = by is_long refl
    where
      by : (b : Bool) → is_long ≡ b → cond b (line ∷ []) [] ≡ line ∷ []
      by true is = refl
      by false is = let short = ltb-false most_line (length line) is in absurd (omega (arith, long, short))

-- what a piece behind a line that has not ended makes of it
abbrev refused_at : Given → ℕ → Type 0
refused_at given k = given.refused ≡ Some (record { number = k; cause = cause.TooLong })

module _ (run : Run) (claim : Claim) (names : List (List ℕ)) where
  -- an answer by another list of lines
  by_lines : (lines others : List (List ℕ)) (given : Given) (is : IsAnswerTo run claim names lines given) → ReadsLines claim.input 1 names others is.reading → IsAnswerTo run claim names others given
  by_lines lines others given is reads = record { reading = is.reading; reads = reads; items_are = is.items_are; names_are = is.names_are; refused_is = is.refused_is }

  module _ (bytes : List ℕ) where
    abbrev ended : List (List ℕ)
    ended = before_last (lines_of bytes)

    abbrev last : List ℕ
    last = last_line (lines_of bytes)

    -- behind a line feed the last line is one of those that ended
    with_feed : (more : List ℕ) → lines_of (bytes ++ 10 ∷ more) ≡ ended ++ last ∷ lines_of more
    with_feed more = joined bytes (10 ∷ more) ∙ ap (λ ls. ended ++ ls) (line_ends last more (last_unended bytes))

    with_piece : (more : List ℕ) → has_line_feed more ≡ false → lines_of (bytes ++ more) ≡ ended ++ (last ++ more) ∷ []
    with_piece more none = joined bytes more ∙ ap (λ ls. ended ++ ls) (line_stays (last ++ more) (none_in_both last more (last_unended bytes) none))

    whole : lines_of bytes ≡ ended ++ last ∷ []
    whole = ap lines_of (sym (append-nil bytes)) ∙ with_piece [] refl ∙ ap (λ l. ended ++ l ∷ []) (append-nil last)

  -- THE LINES THAT ENDED
  module _ (bytes : List ℕ) (feed : Feed) (items : List Item) (answers : (more : List ℕ) (given : Given) → IsAnswer run claim names (bytes ++ more) given ↔ StillBehind items feed more given) where
    reader : Reader
    reader = feed.reader

    -- a line feed makes no line too long
    not_long : (given : Given) (k : ℕ) → IsAnswer run claim names (bytes ++ 10 ∷ []) given → refused_at given k → ⊥
    not_long given k is refused =
        let behind = (answers (10 ∷ []) given).0 is in
        let reads = subst (λ ls. ReadsLines feed.reader.variants feed.reader.number feed.reader.names ls behind.still.reading) (line_ends feed.reader.line [] feed.unended.unended) behind.still.reads in
        never_long k feed.unended.short reads (sym behind.still.refused ∙ sym (ap (λ (g : Given). g.refused) behind.is) ∙ refused)

    module _ (long : List ℕ) (is_long : IsLong long) where
      -- what a feed gives where its line gets too long
      at_long : Given
      at_long = record { items = map modelled items ++ []; names = feed.reader.names; refused = Some (record { number = feed.reader.number; cause = cause.TooLong }) }

      answer_long : IsAnswer run claim names (bytes ++ long) at_long
      unfolding at_long
      answer_long =
          let longer : most_line < length (feed.reader.line ++ long) = omega (arith, is_long.long, length-append feed.reader.line long) in
          let reading = stopped feed.reader.number cause.TooLong feed.reader.names in
          let reads = ReadsLines.too_long longer in
          (answers long at_long).1 (record {
            later = record { items = []; names = feed.reader.names; refused = Some (record { number = feed.reader.number; cause = cause.TooLong }) };
            still = record {
              reading = reading;
              reads = subst (λ ls. ReadsLines feed.reader.variants feed.reader.number feed.reader.names ls reading) (sym (line_stays (feed.reader.line ++ long) (none_in_both feed.reader.line long feed.unended.unended is_long.unended))) reads;
              items = refl;
              names = refl;
              refused = refl;
            };
            is = refl;
          })

      in_turn : InTurn claim.input 1 names (ended bytes) ((last bytes ++ long) ∷ []) answer_long.reading
      unfolding at_long
      in_turn = by (parted claim.input 1 names (ended bytes) ((last bytes ++ long) ∷ []) answer_long.reading (subst (λ ls. ReadsLines claim.input 1 names ls answer_long.reading) (with_piece bytes long is_long.unended) answer_long.reads))
        where
          by : Parts claim.input 1 names (ended bytes) ((last bytes ++ long) ∷ []) answer_long.reading → InTurn claim.input 1 names (ended bytes) ((last bytes ++ long) ∷ []) answer_long.reading
          by (Parts.goes_on turn) = turn
          by (Parts.stops reads some) =
              let feed_reads = subst (λ ls. ReadsLines claim.input 1 names ls answer_long.reading) (sym (with_feed bytes [])) (further reads some (last bytes ∷ lines_of [])) in
              absurd (not_long at_long feed.reader.number (by_lines (lines_of (bytes ++ long)) (lines_of (bytes ++ 10 ∷ [])) at_long answer_long feed_reads) refl)

      -- the last line is the one that is too long
      back_is : in_turn.back ≡ stopped in_turn.number cause.TooLong in_turn.front.names
      back_is =
          let longer : most_line < length (last bytes ++ long) = omega (arith, is_long.long, length-append (last bytes) long) in
          (long_reads claim.input in_turn.number in_turn.front.names (last bytes ++ long) [] in_turn.back longer).0 in_turn.reads_back

      reading_is : answer_long.reading ≡ followed in_turn.front (stopped in_turn.number cause.TooLong in_turn.front.names)
      reading_is = in_turn.is ∙ ap (followed in_turn.front) back_is

      answer_ended : IsAnswerTo run claim names (ended bytes) (ends feed.reader.names items)
      unfolding at_long
      answer_ended = record {
        reading = in_turn.front;
        reads = in_turn.reads;
        items_are =
            sym (append-nil (map modelled items)) ∙ answer_long.items_are
            ∙ ap (λ (x : Reading). one_list (setting_of run) (net_of run) (map Rec x.records)) reading_is
            ∙ ap (λ rs. one_list (setting_of run) (net_of run) (map Rec rs)) (append-nil in_turn.front.records);
        names_are = answer_long.names_are ∙ ap (λ (x : Reading). x.names) reading_is;
        refused_is = sym in_turn.none;
      }

      -- where the piece is too long by itself, a line feed would show it
      piece_short : length (last bytes) ≤ most_line
      piece_short = by (nat_lt most_line (length (last bytes))) refl
        where
          front : Reading
          front = in_turn.front

          by : (b : Bool) → nat_lt most_line (length (last bytes)) ≡ b → length (last bytes) ≤ most_line
          by false is = ltb-false most_line (length (last bytes)) is
          by true is =
              let too_long : most_line < length (last bytes) = ltb-true most_line (length (last bytes)) is in
              let other = stopped in_turn.number cause.TooLong in_turn.front.names in
              let reads : ReadsLines claim.input 1 names (ended bytes ++ last bytes ∷ lines_of []) (followed in_turn.front other) = in_turn.others (last bytes ∷ lines_of []) other (ReadsLines.too_long too_long) in
              let given : Given = record { items = one_list (setting_of run) (net_of run) (map Rec (in_turn.front.records ++ [])); names = in_turn.front.names; refused = other.refused } in
              let answer : IsAnswer run claim names (bytes ++ 10 ∷ []) given = record {
                reading = followed in_turn.front other;
                reads = subst (λ ls. ReadsLines claim.input 1 names ls (followed in_turn.front other)) (sym (with_feed bytes [])) reads;
                items_are = refl;
                names_are = refl;
                refused_is = refl;
              } in
              absurd (not_long given in_turn.number answer refl)

      so_far_by : IsSoFar run claim names bytes items feed.reader.names
      so_far_by = record { answer = answer_ended; short = piece_short }

    pub so_far : IsSoFar run claim names bytes items feed.reader.names
    so_far = so_far_by some_long.0 some_long.1

  -- A REFUSED LINE
  module _ (bytes more : List ℕ) (given : Given) (always : (any : List ℕ) → IsAnswer run claim names (bytes ++ any) given) (some : given.refused ≢ None) where
    abbrev all : List ℕ
    all = bytes ++ more

    abbrev Lines : List (List ℕ) → Type 0
    Lines lines = IsAnswerTo run claim names lines given

    answer : IsAnswer run claim names all given
    answer = always more

    reads_all : ReadsLines claim.input 1 names (ended all ++ last all ∷ []) answer.reading
    reads_all = subst (λ ls. ReadsLines claim.input 1 names ls answer.reading) (whole all) answer.reads

    counts : ReadsLines claim.input 1 names (whole_lines (lines_of all)) answer.reading → Lines (whole_lines (lines_of all))
    counts reads = by_lines (lines_of all) (whole_lines (lines_of all)) given answer reads

    -- a short piece is not refused, since it might still get too long
    module _ (turn : InTurn claim.input 1 names (ended all) (last all ∷ []) answer.reading) (short : length (last all) ≤ most_line) (long : List ℕ) (is_long : IsLong long) where
      long_too : IsAnswer run claim names (all ++ long) given
      long_too = subst (λ bs. IsAnswer run claim names bs given) (sym (append_assoc bytes more long)) (always (more ++ long))

      stops_long : given.refused ≡ Some (record { number = turn.number; cause = cause.TooLong })
      stops_long =
          let longer : most_line < length (last all ++ long) = omega (arith, is_long.long, length-append (last all) long) in
          let other = stopped turn.number cause.TooLong turn.front.names in
          let reads = subst (λ ls. ReadsLines claim.input 1 names ls long_too.reading) (with_piece all long is_long.unended) long_too.reads in
          let same : long_too.reading ≡ followed turn.front other = reads_once reads (followed turn.front other) (turn.others ((last all ++ long) ∷ []) other (ReadsLines.too_long longer)) in
          long_too.refused_is ∙ ap (λ (x : Reading). x.refused) same

      never : ⊥
      never =
          let reads = (last_reads claim.input turn.number turn.front.names (last all) turn.back).0 turn.reads_back in
          never_long turn.number short reads (sym (ap (λ (x : Reading). x.refused) turn.is) ∙ sym answer.refused_is ∙ stops_long)

    pub refused_counts : Lines (whole_lines (lines_of all))
    refused_counts = by (parted claim.input 1 names (ended all) (last all ∷ []) answer.reading reads_all)
      where
        on : InTurn claim.input 1 names (ended all) (last all ∷ []) answer.reading → (b : Bool) → nat_lt most_line (length (last all)) ≡ b → Lines (whole_lines (lines_of all))
        on turn true is =
            let piece = too_long_piece (last all) (ltb-true most_line (length (last all)) is) in
            counts (subst (λ ls. ReadsLines claim.input 1 names (ended all ++ ls) answer.reading) (sym piece) reads_all)
        on turn false is = absurd (never turn (ltb-false most_line (length (last all)) is) some_long.0 some_long.1)

        by : Parts claim.input 1 names (ended all) (last all ∷ []) answer.reading → Lines (whole_lines (lines_of all))
        by (Parts.stops reads refused) = counts (further reads refused (long_piece (last all)))
        by (Parts.goes_on turn) = on turn (nat_lt most_line (length (last all))) refl
