-- An input gives a claim one thing: the records of its input type, or one refusal.
use Rattle.std.proofs.Common.{ℕ, List, ◌≡◌, refl, sym, ◌∙◌, ap, Bool, true, false}
use Rattle.std.specs.Prelude.{Result, Ok, Err, Option, Some, None, IsTrue, not, slice_get}
use Rattle.std.specs.List.{All, position}
use Rattle.std.specs.Option.{option_and_then}
use Rattle.std.specs.FinMap as finite
use Rattle.std.proofs.lemmas.List.Quantifiers.{position-Some}
use Rattle.sn_record.specs.Record.{Entries}
use Rattle.sn_net.specs.declared.net.Claim.{Claim}
use Rattle.sn_input.specs.Reading.{ReadsFile}
use Rattle.sn_input.specs.declared.input.Input.{Input}
use Rattle.sn_input.specs.declared.input.InputFault.{InputFault}
use Rattle.sn_input.specs.declared.input.InputFault.TheVariants as input_fault
use Rattle.sn_outcomes.proofs.RecordFiles.{file_read_once}
use Rattle.sn_load.specs.Load.{HasWrongLine, IsTypedFile, WhyNoRecords, untyped_line}
use Rattle.sn_pieces.specs.Lines.{is_of_type}
use Rattle.sn_stop.specs.declared.refusal.LineFault.{LineFault}
use Rattle.sn_stop.specs.declared.refusal.LineFault.TheVariants as line
use Rattle.sn_stop.specs.declared.refusal.Refusal.{Refusal}
use Rattle.sn_stop.specs.declared.refusal.Refusal.TheVariants.{TooLarge, Source, NoMain, TooDeep, LargeTree, TooManyNames, IllTyped, Variants, Line, Trace}

-- the refusal of a record file; want of memory is none
abbrev file_refusal : InputFault → Refusal
file_refusal (input_fault.BadLine n) = Line (line.BadLine n)
file_refusal (input_fault.Twice n kind name) = Line (line.Twice n kind name)
file_refusal (input_fault.TooMany n) = Line (line.TooMany n)
file_refusal input_fault.TooManyNames = TooManyNames
file_refusal input_fault.Memory = NoMain

abbrev unless_untyped : Input → Option ℕ → Result Input Refusal
unless_untyped input None = Ok input
unless_untyped input (Some n) = Err (Line (line.Untyped n))

-- what comes of what a record file is read as
answer : Claim → Result Input InputFault → Result Input Refusal
answer claim (Ok input) = unless_untyped input (untyped_line claim input)
answer claim (Err fault) = Err (file_refusal fault)

answer_ok : (claim : Claim) (input : Input) (untyped : Option ℕ) → untyped_line claim input ≡ untyped → answer claim (Ok input) ≡ unless_untyped input untyped
unfolding answer
answer_ok claim input untyped e = ap (unless_untyped input) e

answer_wrong : (claim : Claim) (fault : InputFault) → answer claim (Err fault) ≡ Err (file_refusal fault)
unfolding answer
answer_wrong claim fault = refl

-- what is found of an input of these bytes
pub record Comes (names : List (List ℕ)) (claim : Claim) (bytes : List ℕ) (found : Result Input Refusal) : Type 0 where
  read : Result Input InputFault
  is_read : ReadsFile names bytes read
  is : found ≡ answer claim read

pub comes_once : (names : List (List ℕ)) (claim : Claim) (bytes : List ℕ) (found other : Result Input Refusal) → Comes names claim bytes found → Comes names claim bytes other → found ≡ other
comes_once names claim bytes found other x y = x.is ∙ ap (answer claim) (file_read_once names bytes x.read y.read x.is_read y.is_read) ∙ sym y.is

-- where each record is of the type, none has a line that is not
fails_not : (b : Bool) → IsTrue b → not b ≡ true → ⊥
fails_not true is e = absurd cc
fails_not false is e = absurd cc

none_first : (claim : Claim) (records : List Entries) (first : Option ℕ) → All (λ r. IsTrue (is_of_type claim.input r)) records → position (λ r. not (is_of_type claim.input r)) records ≡ first → first ≡ None
none_first claim records None all e = refl
none_first claim records (Some i) all e =
    let found = position-Some (λ r. not (is_of_type claim.input r)) records i finite.empty e in
    absurd (fails_not _ (all i finite.empty found.0) found.1)

none_untyped : (claim : Claim) (input : Input) → All (λ r. IsTrue (is_of_type claim.input r)) input.records → untyped_line claim input ≡ None
none_untyped claim input all = ap (option_and_then (slice_get input.lines)) (none_first claim input.records (position (λ r. not (is_of_type claim.input r)) input.records) all refl)

module _ (names : List (List ℕ)) (claim : Claim) (bytes : List ℕ) where
  wrong_comes : (fault : InputFault) → ReadsFile names bytes (Err fault) → Comes names claim bytes (Err (file_refusal fault))
  wrong_comes fault r = record { read = Err fault; is_read = r; is = sym (answer_wrong claim fault) }

  line_comes : (fault : LineFault) → HasWrongLine fault names claim bytes → Comes names claim bytes (Err (Line fault))
  line_comes (line.BadLine n) f = wrong_comes (input_fault.BadLine n) f
  line_comes (line.Twice n kind name) f = wrong_comes (input_fault.Twice n kind name) f
  line_comes (line.Untyped n) f = record { read = Ok f.input; is_read = f.read; is = sym (answer_ok claim f.input (Some n) f.first) }
  line_comes (line.TooMany n) f = wrong_comes (input_fault.TooMany n) f
  line_comes (line.TooLong n) f = absurd f

  pub refusal_comes : (refusal : Refusal) → WhyNoRecords names claim bytes refusal → Comes names claim bytes (Err refusal)
  refusal_comes (TooLarge which) f = absurd f
  refusal_comes (Source fault at) f = absurd f
  refusal_comes NoMain f = absurd f
  refusal_comes (TooDeep at) f = absurd f
  refusal_comes (LargeTree at) f = absurd f
  refusal_comes TooManyNames f = wrong_comes input_fault.TooManyNames f
  refusal_comes (IllTyped fault at variant) f = absurd f
  refusal_comes (Variants at) f = absurd f
  refusal_comes (Line fault) f = line_comes fault f
  refusal_comes (Trace fault) f = absurd f

  pub typed_comes : (input : Input) → IsTypedFile names claim bytes input → Comes names claim bytes (Ok input)
  typed_comes input t = record { read = Ok input; is_read = t.read; is = sym (answer_ok claim input None (none_untyped claim input t.typed)) }

  pub same_input : (input other : Input) → IsTypedFile names claim bytes input → IsTypedFile names claim bytes other → input ≡ other
  same_input input other r s =
      let same = comes_once names claim bytes (Ok input) (Ok other) (typed_comes input r) (typed_comes other s) in
      cc

  pub same_wrong_input : (refusal other : Refusal) → WhyNoRecords names claim bytes refusal → WhyNoRecords names claim bytes other → refusal ≡ other
  same_wrong_input refusal other r s =
      let same = comes_once names claim bytes (Err refusal) (Err other) (refusal_comes refusal r) (refusal_comes other s) in
      cc

  pub typed_or_refused : (input : Input) (refusal : Refusal) → IsTypedFile names claim bytes input → WhyNoRecords names claim bytes refusal → ⊥
  typed_or_refused input refusal r s =
      let same = comes_once names claim bytes (Ok input) (Err refusal) (typed_comes input r) (refusal_comes refusal s) in
      absurd cc
