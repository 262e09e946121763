-- What a feed finds of an accepted source and the lines of its input, and that it is what is found of the whole file, where no line is too long.
use Rattle.std.proofs.Common.{ℕ, true, false, List, [], ◌∷◌, ◌++◌, ◌≡◌, ◌∙◌, ◌≤◌, append-nil, append_assoc, refl, sym, ap, subst, length, arith}
use Rattle.std.specs.Prelude.{Ok, Option, None, Some, IsTrue, nat_le, nat_lt}
use Rattle.std.specs.List.{All}
use Rattle.std.proofs.lemmas.List.Elements.{All-head, All-tail}
use Rattle.std.proofs.lemmas.Bool.Decides.{nat_tests}
use Rattle.sn_record.specs.LabelSet.{Labels}
use Rattle.sn_record.specs.Record.{Entries}
use Rattle.sn_record.specs.declared.item.Fault.{Fault}
use Rattle.sn_input.specs.Line.{lines_of}
use Rattle.sn_input.specs.Numbered.{record_of, with_entries}
use Rattle.sn_input.specs.OneLine.{GivesLine}
use Rattle.sn_input.specs.Reading.{Reads}
use Rattle.sn_input.specs.declared.input.Input.{Input}
use Rattle.sn_pieces.specs.Lines.{Reading, ReadsLines, is_of_type, most_line, next_number}
use Rattle.sn_feed.specs.Counted.{counted}
use Rattle.sn_feed.specs.declared.feed.TheConstants.{MOST_INPUT}
use Rattle.sn_output.specs.Printed.{ending}
use Rattle.sn_plain.specs.Answer.{BegunFeed, Finds, FindsFeed, IsAccepted, IsAnswered, Outside, done_status, ending_status, found_status}
use Rattle.sn_plain.specs.Feeding.{Fed, IsFedInPart, answer_of, fed_of, refused_behind}
use Rattle.sn_plain.specs.Runs.{OnOneThread, Printout}
use Rattle.sn_load.specs.Load.{IsTypedFile, Limits, limits_of}
use Rattle.sn_load.specs.declared.load.Program.{Program}
use Rattle.sn_stop.specs.declared.status.Status.{Status}
use Rattle.sn_words.specs.declared.command.Command.TheVariants.{Feed}
use Rattle.sn_outcomes.specs.Fed.{AreShort, fed_whole}
use Rattle.sn_outcomes.proofs.Commands.{Feeding, feeding, program_knows}
use Rattle.sn_outcomes.proofs.Fed.{begun_is_first, fed_is_whole}
use Rattle.sn_outcomes.proofs.Loaded.{same_program}
use Rattle.sn_outcomes.proofs.Judging.{Found, goes_accepted}

-- what is found of an accepted source
pub feed_found : (limits : Limits) (bytes more : List ℕ) (program : Program) (reading : Reading) (source input : Option (List ℕ)) (found : Found) → source ≡ Some bytes → input ≡ Some more → IsAccepted bytes program
    → ReadsLines program.claim.input 1 program.names (counted more) reading → FindsFeed limits source input found → found ≡ Ok (fed_whole (fed_of limits program) more reading)
feed_found limits bytes more program reading source input found s i accepted reads f =
    let fed = goes_accepted bytes (Feeding limits more) program found accepted (feeding limits bytes more source input found s i f) in
    fed.is ∙ ap Ok (fed_is_whole (fed_of limits program) fed.knows more fed.printout reading reads fed.fed)

-- the names, and what stands before the first refused line, on one thread
record HasRead (variants : List Labels) (input : Input) (lines : List (List ℕ)) (all : Input) : Type 0 where
  records : List Entries
  grown : all.records ≡ input.records ++ records
  reads : (n : ℕ) → All (λ r. IsTrue (is_of_type variants r)) records → All (λ line. length line ≤ most_line) lines → ReadsLines variants n input.names lines (record { records = records; names = all.names; refused = None })

-- a record file whose lines are short is read alike
file_read : (variants : List Labels) {n : ℕ} {input all : Input} {lines : List (List ℕ)} → Reads n input lines (Ok all) → HasRead variants input lines all
file_read variants {input = input} Reads.end = record { records = []; grown = sym (append-nil input.records); reads = λ n typed short. ReadsLines.end }
file_read variants (Reads.blank {line = line} {lines = lines} blank more) =
    let later = file_read variants more in
    record { records = later.records; grown = later.grown; reads = λ n typed short. ReadsLines.blank (All-head (λ l. length l ≤ most_line) line lines short) (GivesLine.blank blank) (later.reads (next_number n) typed (All-tail (λ l. length l ≤ most_line) line lines short)) }
file_read variants {n = k} {input = input} {all = all} (Reads.taken {line = line} {entries = entries} {lines = lines} taken more) =
    let later = file_read variants more in
    let first = record_of (with_entries input.names entries) entries in
    record {
      records = first ∷ later.records;
      grown = later.grown ∙ append_assoc input.records (first ∷ []) later.records;
      reads = λ n typed short. ReadsLines.taken (All-head (λ l. length l ≤ most_line) line lines short) (GivesLine.taken taken.spelled taken.once taken.few_names)
          (All-head (λ r. IsTrue (is_of_type variants r)) first later.records typed)
          (later.reads (next_number n) (All-tail (λ r. IsTrue (is_of_type variants r)) first later.records typed) (All-tail (λ l. length l ≤ most_line) line lines short));
    }

typed_reads : (program : Program) (bytes : List ℕ) (input : Input) → IsTypedFile program.names program.claim bytes input → AreShort bytes
    → ReadsLines program.claim.input 1 program.names (lines_of bytes) (record { records = input.records; names = input.names; refused = None })
typed_reads program bytes input file short =
    let all = file_read program.claim.input file.read in
    let whole : all.records ≡ input.records = sym all.grown in
    subst (λ rs. ReadsLines program.claim.input 1 program.names (lines_of bytes) (record { records = rs; names = input.names; refused = None })) whole
    (all.reads 1 (subst (All (λ r. IsTrue (is_of_type program.claim.input r))) (sym whole) file.typed) short)

-- of an input within the limit all lines count
all_count : (bytes : List ℕ) → length bytes ≤ MOST_INPUT → counted bytes ≡ lines_of bytes
all_count bytes within = let fits : nat_le (length bytes) MOST_INPUT ≡ true = grind (arith, nat_tests) in rw fits

none_refused : (end : Option Fault) → refused_behind end None false ≡ None
none_refused None = refl
none_refused (Some fault) = refl

-- behind such an input nothing is refused, where no line of it is
not_refused : (fed : Fed) (bytes : List ℕ) (reading : Reading) → length bytes ≤ MOST_INPUT → reading.refused ≡ None → (fed_whole fed bytes reading).refused ≡ None
not_refused fed bytes reading within none =
    let short : nat_lt MOST_INPUT (length bytes) ≡ false = grind (arith, nat_tests) in
    (λ i. refused_behind (ending (answer_of fed reading)) (none i) (short i)) ∙ none_refused (ending (answer_of fed reading))

pub feed_done : (outside : Outside) (source input : List ℕ) (batch fuel depth : ℕ) (bytes more : List ℕ) (program : Program) (reading : Reading) (left : Status)
    → (outside.file source).told ≡ Some bytes → (outside.file input).told ≡ Some more → IsAccepted bytes program → length more ≤ MOST_INPUT
    → ReadsLines program.claim.input 1 program.names (lines_of more) reading → reading.refused ≡ None
    → IsAnswered (Feed source input batch fuel depth) outside left → left ≡ ending_status (ending (answer_of (fed_of (limits_of fuel depth) program) reading))
feed_done outside source input batch fuel depth bytes more program reading left s i accepted within reads none answered =
    let fed : Fed = fed_of (limits_of fuel depth) program in
    let all = subst (λ ls. ReadsLines program.claim.input 1 program.names ls reading) (sym (all_count more within)) reads in
    let found = feed_found (limits_of fuel depth) bytes more program reading (outside.file source).told (outside.file input).told answered.found s i accepted all answered.finds in
    answered.status_is ∙ ap found_status found ∙ ap (done_status (ending (answer_of fed reading))) (not_refused fed more reading within none)

-- what is printed of a part of the input stands first in what is printed of it whole
pub feed_begins : (limits : Limits) (bytes more : List ℕ) (program : Program) (reading : Reading) (source input : Option (List ℕ)) (p : Printout) → source ≡ Some bytes → input ≡ Some more → IsAccepted bytes program
    → ReadsLines program.claim.input 1 program.names (counted more) reading → BegunFeed limits source input p
    → (rest : List ℕ) × ((fed_whole (fed_of limits program) more reading).bytes ≡ p.bytes ++ rest)
feed_begins limits bytes more program reading source input p s i accepted reads f =
    let (other, also, begun) = subst (λ (x : Option (List ℕ) × Option (List ℕ)). BegunFeed limits x.0 x.1 p) (λ j. (s j, i j)) f in
    let same : other ≡ program = same_program bytes other program also.main accepted.main in
    begun_is_first (fed_of limits program) (program_knows bytes program accepted) more p reading reads (subst (λ x. IsFedInPart (fed_of limits x) more p) same begun)

-- a feed prints what is printed of a record file
pub feed_as_once : (limits : Limits) (bytes more : List ℕ) (source input : Option (List ℕ)) (p : Printout) (found : Found) → source ≡ Some bytes → input ≡ Some more → AreShort more
    → Finds OnOneThread limits source input (Ok p) → FindsFeed limits source input found → found ≡ Ok p
feed_as_once limits bytes more source input p found s i short once f =
    let (program, accepted, prints) = subst (λ (x : Option (List ℕ) × Option (List ℕ)). Finds OnOneThread limits x.0 x.1 (Ok p)) (λ j. (s j, i j)) once in
    let within : length more ≤ MOST_INPUT = let fits = prints.within in omega (arith, fits) in
    let reading : Reading = record { records = prints.input.records; names = prints.input.names; refused = None } in
    let reads = subst (λ ls. ReadsLines program.claim.input 1 program.names ls reading) (sym (all_count more within)) (typed_reads program more prints.input prints.typed short) in
    let none : (fed_whole (fed_of limits program) more reading).refused ≡ None = not_refused (fed_of limits program) more reading within refl in
    feed_found limits bytes more program reading source input found s i accepted reads f
    ∙ (λ j. Ok (record { bytes = sym prints.shown.bytes_are j; ending = sym prints.shown.ending_is j; refused = (none ∙ sym prints.shown.unrefused) j }))
