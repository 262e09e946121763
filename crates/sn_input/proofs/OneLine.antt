-- What one line gives, and what it does to what was read before it.
use Rattle.std.proofs.Common.{◌≡◌, ◌∙◌, ℕ, ◌<◌, ◌≤◌, false, true, List, length, refl, sym, ap, subst, inl, inr, arith}
use Rattle.std.specs.Prelude.{Bool, Option, None, Some, Result, Ok, Err, ◌⊎◌, ◌==◌, nat_le}
use Rattle.std.proofs.lemmas.Bool.{eqb-true}
use Rattle.std.proofs.lemmas.Bool.Decides.{nat_tests}
use Rattle.sn_record.specs.Record.{Entries}
use Rattle.sn_record_tokens.specs.declared.token.Token.{Token}
use Rattle.sn_record_tokens.proofs.Once.{Tokens_once}
use Rattle.std.specs.Str.{chars}
use Rattle.sn_record_parser.specs.declared.entry.WrittenLabel.{WrittenLabel}
use Rattle.sn_record_parser.specs.declared.entry.Entry.{Entry}
use Rattle.sn_record_parser.specs.Grammar.{IsLine}
use Rattle.sn_record_parser.proofs.Once.{IsLine_once}
use Rattle.sn_input.specs.declared.input.Input.{Input}
use Rattle.sn_input.specs.declared.input.InputFault.{InputFault}
use Rattle.sn_input.specs.declared.input.InputFault.TheVariants as file
use Rattle.sn_input.specs.declared.input.RecordFault.{RecordFault}
use Rattle.sn_input.specs.declared.input.RecordFault.TheVariants.{Twice, TooManyNames, Memory}
use Rattle.sn_input.specs.Line.{SpellsLine}
use Rattle.sn_input.specs.Numbered.{with_entries, record_of, repeated}
use Rattle.sn_input.specs.OneLine.{Found, GivesLine}
use Rattle.sn_input.specs.Reading.{most_names, most_records, with_record}
use Rattle.sn_input.specs.Steps.{Adds, EndsWith, GoesOn, IsTwice, LacksRoom, Repeats, SpellsOnly, told}
use Rattle.std.proofs.lemmas.Option.{same_Some}
use Rattle.sn_input.proofs.Blanks.{blank_spells_none}
use Rattle.sn_input.proofs.Going.{bad_ends, blank_goes, room_ends, taken_goes, twice_ends}

-- a line spells one list of entries
pub spells_once : (line : List ℕ) (entries others : List Entry) → SpellsLine line entries → SpellsLine line others → others ≡ entries
spells_once line entries others is other =
    let same : other.tokens ≡ is.tokens = Tokens_once (chars line) other.tokens is.tokens other.scanned is.scanned in
    IsLine_once (subst (λ (tokens : List Token). IsLine tokens others) same other.parsed) is.parsed

pub spells_only : (line : List ℕ) (entries : List Entry) → SpellsLine line entries → SpellsOnly line entries
spells_only line entries is = record { spelled = is; only = λ others other. spells_once line entries others is other }

-- entries of which a label repeats an earlier one refuse their line
pub repeats_refuse : (names : List (List ℕ)) (line : List ℕ) (entries : List Entry) (fault : RecordFault) → SpellsLine line entries → Repeats entries fault → GivesLine names line (Err fault)
repeats_refuse names line entries fault spelled (Repeats.repeats again) = GivesLine.twice spelled again

module _ (input : Input) (n : ℕ) (line : List ℕ) where
  -- a line that gives nothing is passed over
  pub nothing_goes : (names : List (List ℕ)) → GivesLine input.names line (Ok (None, names)) → GoesOn input n line (record input { names = names })
  nothing_goes names (GivesLine.blank blank) = blank_goes input n line blank

  -- a line that gives a record is taken where there is room for it
  pub record_goes : (r : Entries) (names : List (List ℕ)) (new : Input) → GivesLine input.names line (Ok (Some r, names)) → Adds (record input { names = names }) n r new → GoesOn input n line new
  record_goes r names new (GivesLine.taken {entries = entries} spelled once few) adds =
      let is : new ≡ with_record input n entries = λ i. record { records = adds.records i; lines = adds.lines i; names = adds.names i } in
      subst (GoesOn input n line) (sym is) (taken_goes input n line entries (spells_only line entries spelled) once (record { few = adds.few; few_names = few }))

  -- and is one too many where there is none
  pub record_ends : (r : Entries) (names : List (List ℕ)) → GivesLine input.names line (Ok (Some r, names)) → length input.records ≡ most_records → EndsWith input n line (file.TooMany n)
  record_ends r names (GivesLine.taken {entries = entries} spelled once few) full = room_ends input n line entries (file.TooMany n) (spells_only line entries spelled) once (LacksRoom.records full)

  -- a line that is refused ends the file
  pub refusal_ends : (fault : RecordFault) → GivesLine input.names line (Err fault) → length input.records < most_records → EndsWith input n line (told n fault false)
  refusal_ends _ (GivesLine.bad_line filled none) few = bad_ends input n line filled none
  refusal_ends _ (GivesLine.twice {entries = entries} {label = label} spelled again) few = twice_ends input n line entries (file.Twice n label.kind label.name) (spells_only line entries spelled) (IsTwice.twice again)
  refusal_ends _ (GivesLine.too_many_names {entries = entries} spelled once many) few = room_ends input n line entries file.TooManyNames (spells_only line entries spelled) once (LacksRoom.names few many)

  pub refusal_ends_full : (fault : RecordFault) → GivesLine input.names line (Err fault) → length input.records ≡ most_records → EndsWith input n line (told n fault true)
  refusal_ends_full _ (GivesLine.bad_line filled none) full = bad_ends input n line filled none
  refusal_ends_full _ (GivesLine.twice {entries = entries} {label = label} spelled again) full = twice_ends input n line entries (file.Twice n label.kind label.name) (spells_only line entries spelled) (IsTwice.twice again)
  refusal_ends_full _ (GivesLine.too_many_names {entries = entries} spelled once many) full = room_ends input n line entries (file.TooMany n) (spells_only line entries spelled) once (LacksRoom.records full)

-- what a line gives is one thing alone
pub gives_once : (names : List (List ℕ)) (line : List ℕ) (one other : Result Found RecordFault) → GivesLine names line one → GivesLine names line other → one ≡ other
gives_once names line _ _ (GivesLine.blank b) (GivesLine.blank c) = refl
gives_once names line _ _ (GivesLine.blank b) (GivesLine.taken {entries = es} s o f) = absurd (blank_spells_none line es b s)
gives_once names line _ _ (GivesLine.blank b) (GivesLine.bad_line filled none) = absurd (cc)
gives_once names line _ _ (GivesLine.blank b) (GivesLine.twice {entries = es} s o) = absurd (blank_spells_none line es b s)
gives_once names line _ _ (GivesLine.blank b) (GivesLine.too_many_names {entries = es} s o f) = absurd (blank_spells_none line es b s)
gives_once names line _ _ (GivesLine.taken {entries = es} s o f) (GivesLine.blank c) = absurd (blank_spells_none line es c s)
gives_once names line _ _ (GivesLine.taken {entries = es} s o f) (GivesLine.taken {entries = fs} s' o' f') = ap (λ (xs : List Entry). Ok (Some (record_of (with_entries names xs) xs), with_entries names xs)) (spells_once line fs es s' s)
gives_once names line _ _ (GivesLine.taken {entries = es} s o f) (GivesLine.bad_line filled none) = absurd (none es s)
gives_once names line _ _ (GivesLine.taken {entries = es} s o f) (GivesLine.twice {entries = fs} s' again) = let same = spells_once line fs es s' s in let two = sym o ∙ ap repeated same ∙ again in absurd (cc)
gives_once names line _ _ (GivesLine.taken {entries = es} s o f) (GivesLine.too_many_names {entries = fs} s' o' many) =
    let few : length (with_entries names fs) ≤ most_names = subst (λ (xs : List Entry). length (with_entries names xs) ≤ most_names) (spells_once line fs es s' s) f in
    absurd (omega (arith, few, many))
gives_once names line _ _ (GivesLine.bad_line filled none) (GivesLine.blank c) = absurd (cc)
gives_once names line _ _ (GivesLine.bad_line filled none) (GivesLine.taken {entries = es} s o f) = absurd (none es s)
gives_once names line _ _ (GivesLine.bad_line filled none) (GivesLine.bad_line filled' none') = refl
gives_once names line _ _ (GivesLine.bad_line filled none) (GivesLine.twice {entries = es} s o) = absurd (none es s)
gives_once names line _ _ (GivesLine.bad_line filled none) (GivesLine.too_many_names {entries = es} s o f) = absurd (none es s)
gives_once names line _ _ (GivesLine.twice {entries = es} s again) (GivesLine.blank c) = absurd (blank_spells_none line es c s)
gives_once names line _ _ (GivesLine.twice {entries = es} s again) (GivesLine.taken {entries = fs} s' o f) = let same = spells_once line fs es s' s in let two = sym again ∙ ap repeated same ∙ o in absurd (cc)
gives_once names line _ _ (GivesLine.twice {entries = es} s again) (GivesLine.bad_line filled none) = absurd (none es s)
gives_once names line _ _ (GivesLine.twice {entries = es} {label = l} s again) (GivesLine.twice {entries = fs} {label = m} s' again') =
    let same : Some l ≡ Some m = sym again ∙ ap repeated (spells_once line fs es s' s) ∙ again' in
    ap (λ (x : WrittenLabel). Err (Twice x.kind x.name)) (same_Some l m same)
gives_once names line _ _ (GivesLine.twice {entries = es} s again) (GivesLine.too_many_names {entries = fs} s' o f) = let same = spells_once line fs es s' s in let two = sym again ∙ ap repeated same ∙ o in absurd (cc)
gives_once names line _ _ (GivesLine.too_many_names {entries = es} s o many) (GivesLine.blank c) = absurd (blank_spells_none line es c s)
gives_once names line _ _ (GivesLine.too_many_names {entries = es} s o many) (GivesLine.taken {entries = fs} s' o' f) =
    let over : most_names < length (with_entries names fs) = subst (λ (xs : List Entry). most_names < length (with_entries names xs)) (spells_once line fs es s' s) many in
    absurd (omega (arith, over, f))
gives_once names line _ _ (GivesLine.too_many_names {entries = es} s o many) (GivesLine.bad_line filled none) = absurd (none es s)
gives_once names line _ _ (GivesLine.too_many_names {entries = es} s o many) (GivesLine.twice {entries = fs} s' again) = let same = spells_once line fs es s' s in let two = sym o ∙ ap repeated same ∙ again in absurd (cc)
gives_once names line _ _ (GivesLine.too_many_names s o many) (GivesLine.too_many_names s' o' many') = refl

over : (have : Bool) (n : ℕ) → have ≡ nat_le n most_names → have ≡ false → most_names < n
over have n is none = grind (arith, nat_tests)

-- names that are too many
pub too_many : (names : List (List ℕ)) (line : List ℕ) (entries read : List Entry) (have : Bool) → SpellsLine line entries → repeated entries ≡ None → read ≡ entries → have ≡ nat_le (length (with_entries names read)) most_names → have ≡ false → GivesLine names line (Err TooManyNames)
too_many names line entries read have spelled once same is none =
    let many : most_names < length (with_entries names entries) = over have (length (with_entries names entries)) (is ∙ ap (λ (es : List Entry). nat_le (length (with_entries names es)) most_names) same) none in
    GivesLine.too_many_names spelled once many

-- and those that find room
pub takes : (names : List (List ℕ)) (line : List ℕ) (entries : List Entry) (made : Entries) (new : List (List ℕ)) → SpellsLine line entries → repeated entries ≡ None → new ≡ with_entries names entries → length new ≤ most_names → made ≡ record_of new entries → GivesLine names line (Ok (Some made, new))
takes names line entries made new spelled once entered few is =
    let fits : length (with_entries names entries) ≤ most_names = subst (λ (ns : List (List ℕ)). length ns ≤ most_names) entered few in
    let whole : made ≡ record_of (with_entries names entries) entries = is ∙ ap (λ (ns : List (List ℕ)). record_of ns entries) entered in
    let found : Found = (Some made, new) in
    let path : found ≡ (Some (record_of (with_entries names entries) entries), with_entries names entries) = λ i. (Some (whole i), entered i) in
    subst (λ (x : Found). GivesLine names line (Ok x)) (sym path) (GivesLine.taken spelled once fits)

by_room : (input : Input) (n : ℕ) (line : List ℕ) (f : RecordFault) (count : ℕ) (full : Bool) → count ≡ length input.records → length input.records ≤ most_records → full ≡ (count == most_records) → GivesLine input.names line (Err f) → EndsWith input n line (told n f full)
by_room input n line f count true counts few is gives = refusal_ends_full input n line f gives (sym counts ∙ eqb-true count most_records (sym is))
by_room input n line f count false counts few is gives = refusal_ends input n line f gives (grind (arith, nat_tests))

-- a line that was refused ends the file
pub refused_line : (input : Input) (n : ℕ) (line : List ℕ) (f : RecordFault) (names : List (List ℕ)) (count : ℕ) (full : Bool) (result : InputFault) → (f ≡ Memory) ⊎ (GivesLine input.names line (Err f) × (names ≡ input.names)) → count ≡ length input.records → length input.records ≤ most_records
    → full ≡ (count == most_records) → result ≡ told n f full → (result ≡ file.Memory) ⊎ EndsWith input n line result
refused_line input n line f names count full result why counts few is_full is = elim why [
  | inl memory ↦ inl (is ∙ ap (λ (g : RecordFault). told n g full) memory)
  | inr gives ↦ inr (subst (EndsWith input n line) (sym is) (by_room input n line f count full counts few is_full gives.0))
]

-- a line that gave nothing, or a record
pub none_goes : (input : Input) (n : ℕ) (line : List ℕ) (found : Option Entries) (names : List (List ℕ)) → GivesLine input.names line (Ok (found, names)) → found ≡ None → GoesOn input n line (record input { names = names })
none_goes input n line found names gives none = nothing_goes input n line names (subst (λ (o : Option Entries). GivesLine input.names line (Ok (o, names))) none gives)

pub some_gives : (input : Input) (line : List ℕ) (found : Option Entries) (r : Entries) (names : List (List ℕ)) → GivesLine input.names line (Ok (found, names)) → found ≡ Some r → GivesLine input.names line (Ok (Some r, names))
some_gives input line found r names gives some = subst (λ (o : Option Entries). GivesLine input.names line (Ok (o, names))) some gives
