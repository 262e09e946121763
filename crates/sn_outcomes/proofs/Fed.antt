-- Two feeds of one input print one thing, and that is what is printed of all lines that count.
use Rattle.std.proofs.Common.{ℕ, Bool, List, [], ◌∷◌, ◌++◌, ◌≡◌, ◌∙◌, append-nil, append_assoc, refl, sym, ap, subst, map, length}
use Rattle.std.specs.Prelude.{Option, None, Some, nat_lt}
use Rattle.std.specs.List.{AllByRecursion as Each}
use Rattle.std.proofs.lemmas.List.{append_cancel_left, map-append}
use Rattle.sn_record.specs.LabelSet.{Labels}
use Rattle.sn_record.specs.Record.{Entries}
use Rattle.sn_record.specs.declared.item.Fault.{Fault as FaultAt}
use Rattle.sn_net.specs.declared.net.Net.{Net}
use Rattle.sn_net.specs.Item.{ModelItem, Rec, Fault, Stuck}
use Rattle.sn_streams.proofs.Machines.{emitted-append}
use Rattle.sn_streams.specs.OneByOne.{one_by_one, rest, start, state_after}
use Rattle.sn_model.specs.Meaning.{Setting, one_list, tree}
use Rattle.sn_model.proofs.Lists.{one_list-rest}
use Rattle.sn_labels.specs.Flowing.{ItemHasOnly}
use Rattle.sn_stream_labels.specs.Known.{Knows}
use Rattle.sn_stream_labels.proofs.Nets.{one_list_only}
use Rattle.sn_pieces.specs.Known.{is_known}
use Rattle.sn_pieces.specs.Lines.{Reading, ReadsLines}
use Rattle.sn_pieces.specs.Reader.{Begins}
use Rattle.sn_pieces.proofs.Knowing.{found_known}
use Rattle.sn_pieces.proofs.Parted.{Parts, parted}
use Rattle.sn_pieces.proofs.Stays.{begins_none, lines_begin, reads_once}
use Rattle.sn_feed.specs.Counted.{counted}
use Rattle.sn_feed.specs.declared.feed.TheConstants.{MOST_INPUT}
use Rattle.sn_feed.proofs.Knowing.{known_later}
use Rattle.sn_output.specs.Printed.{ending, printed}
use Rattle.sn_output.specs.Line.{line}
use Rattle.sn_output.proofs.Printed.{ending-before_fault, printed-before_fault}
use Rattle.sn_plain.specs.Feeding.{Fed, IsFed, IsFedInPart, IsReadUp, answer_of, refused_behind}
use Rattle.sn_plain.specs.Runs.{Printout}
use Rattle.sn_plain.proofs.Longer.{printed_later}
use Rattle.sn_outcomes.specs.Fed.{fed_whole}

-- first items are answered first
pub answered_first : (s : Setting) (net : Net) (xs ys : List ModelItem) → (zs : List ModelItem) × (one_list s net (xs ++ ys) ≡ one_list s net xs ++ zs)
answered_first s net xs ys =
    let t = tree s net in
    (rest t (state_after t xs) ys, one_list-rest s net (xs ++ ys) ∙ emitted-append (one_by_one t) (start t) xs ys ∙ ap (λ zs. zs ++ rest t (state_after t xs) ys) (sym (one_list-rest s net xs)))

-- and printed first
printed_first : (names : List (List ℕ)) (items more : List ModelItem) → (behind : List ℕ) × (printed names (items ++ more) ≡ printed names items ++ behind)
printed_first names [] more = (printed names more, refl)
printed_first names (Rec r ∷ items) more =
    let first = printed_first names items more in
    (first.0, ap (λ bytes. line names r ++ bytes) first.1 ∙ sym (append_assoc (line names r) (printed names items) first.0))
printed_first names (Fault fault ∷ items) more = ([], refl)
printed_first names (Stuck place ∷ items) more = ([], refl)

-- of two lists that begin one list, one begins the other
data Nested (xs ys : List (List ℕ)) : Type 0 where
  begins : (more : List (List ℕ)) → ys ≡ xs ++ more → Nested xs ys
  is_begun : (more : List (List ℕ)) → xs ≡ ys ++ more → Nested xs ys

nested : (xs ys bs cs : List (List ℕ)) → xs ++ bs ≡ ys ++ cs → Nested xs ys
nested [] ys bs cs both = Nested.begins ys refl
nested (x ∷ xs) [] bs cs both = Nested.is_begun (x ∷ xs) refl
nested (x ∷ xs) (y ∷ ys) bs cs both =
    let head : x ≡ y = cc in
    let tails : xs ++ bs ≡ ys ++ cs = cc in
    by head (nested xs ys bs cs tails)
  where
    by : x ≡ y → Nested xs ys → Nested (x ∷ xs) (y ∷ ys)
    by head (Nested.begins more is) = Nested.begins more (λ i. sym head i ∷ is i)
    by head (Nested.is_begun more is) = Nested.is_begun more (λ i. head i ∷ is i)

nothing_before : (xs ys : List (List ℕ)) → xs ++ ys ≡ [] → xs ≡ []
nothing_before [] ys none = refl
nothing_before (x ∷ xs) ys none = absurd cc

none_behind : (end : Option FaultAt) → IsReadUp end []
none_behind None = refl
none_behind (Some fault) = tt

-- what first lines give begins what more lines give
record GoesOn (front whole : Reading) : Type 0 where
  names : Begins front.names whole.names
  more : List Entries
  records : whole.records ≡ front.records ++ more

reading_goes_on : (variants : List Labels) (names lines behind : List (List ℕ)) (front whole : Reading) → ReadsLines variants 1 names lines front → ReadsLines variants 1 names (lines ++ behind) whole → GoesOn front whole
reading_goes_on variants names lines behind front whole first all = by (parted variants 1 names lines behind whole all)
  where
    by : Parts variants 1 names lines behind whole → GoesOn front whole
    by (Parts.stops reads some) = subst (GoesOn front) (reads_once first whole reads) (record { names = begins_none front.names; more = []; records = sym (append-nil front.records) })
    by (Parts.goes_on t) =
        let same : t.front ≡ front = reads_once t.reads front first in
        subst (λ (r : Reading). GoesOn r whole) same
        (record {
          names = let all_names : Begins t.front.names t.back.names = lines_begin t.reads_back in (all_names.0, ap (λ (r : Reading). r.names) t.is ∙ all_names.1);
          more = t.back.records;
          records = ap (λ (r : Reading). r.records) t.is;
        })

-- the names know the labels of what was read
records_known : {variants : List Labels} {n : ℕ} {names lines : List (List ℕ)} {reading : Reading} → ReadsLines variants n names lines reading → Each (ItemHasOnly (is_known reading.names)) (map Rec reading.records)
records_known ReadsLines.end = tt
records_known (ReadsLines.too_long long) = tt
records_known (ReadsLines.blank short gives more) = records_known more
records_known (ReadsLines.taken {names = names} {later = later} {line = line} {r = r} {reading = reading} short gives fits more) =
    ((λ l there. known_later later reading.names l (lines_begin more) (found_known names later line (Some r) gives l there)), records_known more)
records_known (ReadsLines.untyped short gives differs) = tt
records_known (ReadsLines.refused short gives because) = tt

module _ (fed : Fed) (knows : Knows (is_known fed.names) fed.setting.boxes fed.net) where
  -- those that are read know the labels of the answer
  answer_known : (lines : List (List ℕ)) (reading : Reading) → ReadsLines fed.input 1 fed.names lines reading → Each (ItemHasOnly (is_known reading.names)) (answer_of fed reading)
  answer_known lines reading reads =
      let begins = lines_begin reads in
      one_list_only (is_known reading.names) fed.setting fed.net (map Rec reading.records)
      (record { of_net = λ l there. known_later fed.names reading.names l begins (knows.of_net l there); of_boxes = λ l there. known_later fed.names reading.names l begins (knows.of_boxes l there) })
      (records_known reads)

  record Continues (front whole : Reading) : Type 0 where
    more : List ModelItem
    answer : answer_of fed whole ≡ answer_of fed front ++ more
    printed_alike : printed whole.names (answer_of fed front) ≡ printed front.names (answer_of fed front)

  answer_continues : (lines behind : List (List ℕ)) (front whole : Reading) → ReadsLines fed.input 1 fed.names lines front → ReadsLines fed.input 1 fed.names (lines ++ behind) whole → Continues front whole
  answer_continues lines behind front whole first all =
      let on = reading_goes_on fed.input fed.names lines behind front whole first all in
      let items = answered_first fed.setting fed.net (map Rec front.records) (map Rec on.more) in
      record {
        more = items.0;
        answer = ap (λ rs. one_list fed.setting fed.net (map Rec rs)) on.records ∙ ap (one_list fed.setting fed.net) (map-append Rec front.records on.more) ∙ items.1;
        printed_alike = printed_later front.names whole.names (answer_of fed front) on.names ∣ answer_known lines front first ∣₁;
      }

  module _ (bytes : List ℕ) where
    abbrev large : Bool
    large = nat_lt MOST_INPUT (length bytes)

    -- of first lines behind which others are read the same is printed, since all are read but behind a fault
    same_further : (p q : Printout) (a : IsFed fed bytes p) (b : IsFed fed bytes q) (more : List (List ℕ)) → b.part.lines ≡ a.part.lines ++ more → p ≡ q
    same_further p q a b more longer = by p.ending refl
      where
        front : Reading
        front = a.part.reading

        whole : Reading
        whole = b.part.reading

        by : (end : Option FaultAt) → p.ending ≡ end → p ≡ q
        by None unended =
            let all : a.part.behind ≡ [] = subst (λ o. IsReadUp o a.part.behind) unended a.up in
            let counted_is : a.part.lines ++ [] ≡ a.part.lines ++ (more ++ b.part.behind) =
            sym (ap (λ ls. a.part.lines ++ ls) all) ∙ sym a.part.first ∙ b.part.first ∙ ap (λ ls. ls ++ b.part.behind) longer ∙ append_assoc a.part.lines more b.part.behind in
            let none : more ++ b.part.behind ≡ [] = sym (append_cancel_left a.part.lines [] (more ++ b.part.behind) counted_is) in
            let no_more : more ≡ [] = nothing_before more b.part.behind none in
            let lines : b.part.lines ≡ a.part.lines = longer ∙ ap (λ ls. a.part.lines ++ ls) no_more ∙ append-nil a.part.lines in
            let same : front ≡ whole = reads_once a.part.reads whole (subst (λ ls. ReadsLines fed.input 1 fed.names ls whole) lines b.part.reads) in
            let ends : p.ending ≡ q.ending = a.part.ending_is ∙ ap (λ (r : Reading). ending (answer_of fed r)) same ∙ sym b.part.ending_is in
            let bytes_are : p.bytes ≡ q.bytes = a.part.bytes_are ∙ ap (λ (r : Reading). printed r.names (answer_of fed r)) same ∙ sym b.part.bytes_are in
            let refused_is : p.refused ≡ q.refused = a.refused_is ∙ (λ i. refused_behind (ends i) (same i).refused large) ∙ sym b.refused_is in
            λ i. record { bytes = bytes_are i; ending = ends i; refused = refused_is i }
        by (Some fault) ended =
            let on = answer_continues a.part.lines more front whole a.part.reads (subst (λ ls. ReadsLines fed.input 1 fed.names ls whole) longer b.part.reads) in
            let fault_is : ending (answer_of fed front) ≡ Some fault = sym a.part.ending_is ∙ ended in
            let later : ending (answer_of fed whole) ≡ Some fault = ap ending on.answer ∙ ending-before_fault (answer_of fed front) on.more fault fault_is in
            let ends : p.ending ≡ q.ending = ended ∙ sym later ∙ sym b.part.ending_is in
            let bytes_are : p.bytes ≡ q.bytes =
            a.part.bytes_are ∙ sym on.printed_alike ∙ sym (printed-before_fault whole.names (answer_of fed front) on.more fault fault_is) ∙ sym (ap (printed whole.names) on.answer) ∙ sym b.part.bytes_are in
            let behind_p : p.refused ≡ None = a.refused_is ∙ ap (λ o. refused_behind o front.refused large) ended in
            let behind_q : q.refused ≡ None = b.refused_is ∙ ap (λ o. refused_behind o whole.refused large) (b.part.ending_is ∙ later) in
            λ i. record { bytes = bytes_are i; ending = ends i; refused = (behind_p ∙ sym behind_q) i }

    pub fed_once : (p q : Printout) → IsFed fed bytes p → IsFed fed bytes q → p ≡ q
    fed_once p q a b = by (nested a.part.lines b.part.lines a.part.behind b.part.behind (sym a.part.first ∙ b.part.first))
      where
        by : Nested a.part.lines b.part.lines → p ≡ q
        by (Nested.begins more is) = same_further p q a b more is
        by (Nested.is_begun more is) = sym (same_further q p b a more is)

    -- all lines that count are read
    pub whole_is_fed : (reading : Reading) → ReadsLines fed.input 1 fed.names (counted bytes) reading → IsFed fed bytes (fed_whole fed bytes reading)
    whole_is_fed reading reads = record {
      part = record { lines = counted bytes; behind = []; first = sym (append-nil (counted bytes)); reading = reading; reads = reads; bytes_are = refl; ending_is = refl };
      up = none_behind (ending (answer_of fed reading));
      refused_is = refl;
    }

    pub fed_is_whole : (p : Printout) (reading : Reading) → ReadsLines fed.input 1 fed.names (counted bytes) reading → IsFed fed bytes p → p ≡ fed_whole fed bytes reading
    fed_is_whole p reading reads a = fed_once p (fed_whole fed bytes reading) a (whole_is_fed reading reads)

    -- what is printed of some first lines stands first
    pub begun_is_first : (p : Printout) (reading : Reading) → ReadsLines fed.input 1 fed.names (counted bytes) reading → IsFedInPart fed bytes p → (rest : List ℕ) × ((fed_whole fed bytes reading).bytes ≡ p.bytes ++ rest)
    begun_is_first p reading reads a =
        let on = answer_continues a.lines a.behind a.reading reading a.reads (subst (λ ls. ReadsLines fed.input 1 fed.names ls reading) a.first reads) in
        let first = printed_first reading.names (answer_of fed a.reading) on.more in
        (first.0, ap (printed reading.names) on.answer ∙ first.1 ∙ ap (λ text. text ++ first.0) (on.printed_alike ∙ sym a.bytes_are))
