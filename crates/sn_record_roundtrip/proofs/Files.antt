-- The file of printed lines gives the records.
use Rattle.std.proofs.Common.{◌≡◌, ◌∙◌, ℕ, ◌+◌, ◌<◌, ◌≤◌, ◌==◌, Bool, true, false, List, [], ◌∷◌, ◌++◌, length, length-append, append_assoc, append-nil, get_or, codes, refl, sym, ap, subst, arith}
use Rattle.std.specs.Prelude.{Result, Ok, ◌↔◌, encode_utf8_all}
use Rattle.std.specs.List.{All, list_all, range_with_len}
use Rattle.std.specs.Str.{chars, NonePass}
use Rattle.std.proofs.lemmas.Bool.{and_parts, both_ways, eqb-true, false_from_ne_true}
use Rattle.std.proofs.lemmas.Bool.Decides.{nat_tests}
use Rattle.std.proofs.lemmas.List.Elements.{All-nil, All-head, All-tail, All-cons, All-from_get_or}
use Rattle.std.proofs.lemmas.List.Splits.{slice_split_at}
use Rattle.std.proofs.lemmas.Str.{chars-encodes, NoCharPasses-byte}
use Rattle.sn_record.specs.Record.{Entries}
use Rattle.sn_names.specs.Names.{AreNames}
use Rattle.sn_record_tokens.proofs.Once.{Tokens_once}
use Rattle.sn_record_tokens.specs.Tokens.{Tokens}
use Rattle.sn_record_parser.specs.declared.entry.Entry.{Entry}
use Rattle.sn_record_parser.specs.Grammar.{IsLine}
use Rattle.sn_record_parser.proofs.Once.{IsLine_once}
use Rattle.sn_input.specs.declared.input.Input.{Input}
use Rattle.sn_input.specs.declared.input.InputFault.{InputFault}
use Rattle.sn_input.specs.Line.{lines_of, SpellsLine}
use Rattle.sn_input.specs.Numbered.{with_entries, record_of}
use Rattle.sn_input.specs.Reading.{most_records, most_names, with_record, Reads, ReadsFile}
use Rattle.sn_input.specs.Steps.{SpellsOnly, GoesOn}
use Rattle.sn_input.proofs.Going.{blank_goes, taken_goes}
use Rattle.sn_output.specs.Line.{line}
use Rattle.sn_record_roundtrip.specs.PrintedFile.{printed_file, line_by_line}
use Rattle.sn_record_roundtrip.specs.ReadsBack.{ReadsBack, is_no_line_feed}
use Rattle.sn_record_roundtrip.specs.Writable.{IsWritable}
use Rattle.sn_record_roundtrip.proofs.Lines.{line_reads_back}

abbrev is_line_feed : ℕ → Bool
is_line_feed byte = byte == 10

no_character : (cs : List ℕ) → list_all is_no_line_feed cs ≡ true → NonePass is_line_feed cs
no_character [] h = tt
no_character (c ∷ cs) h =
    let parts = and_parts (is_no_line_feed c) (list_all is_no_line_feed cs) h in
    (grind (arith, nat_tests), no_character cs parts.1)

-- no byte of characters without a line feed is one
no_byte : (cs : List ℕ) → list_all is_no_line_feed cs ≡ true → All (λ byte. is_line_feed byte ≡ false) (encode_utf8_all cs)
no_byte cs h = All-from_get_or (λ byte. is_line_feed byte ≡ false) (encode_utf8_all cs) 0 (λ i within.
    false_from_ne_true _ (λ feed.
    let byte = get_or (encode_utf8_all cs) i 0 in
    let ten : byte ≡ 10 = eqb-true byte 10 feed in
    both_ways _ (NoCharPasses-byte is_line_feed (encode_utf8_all cs) i (cs, refl, no_character cs h) within (omega arith)) feed))

-- the bytes of a line, before its line feed
abbrev text : {names : List (List ℕ)} {r : Entries} → ReadsBack names r → List ℕ
text back = encode_utf8_all back.characters

module _ (names : List (List ℕ)) where
  -- the line is the first of the file's
  first_line : (r : Entries) (back : ReadsBack names r) (more : List ℕ) → lines_of (line names r ++ more) ≡ text back ∷ lines_of more
  first_line r back more =
      ap (λ bytes. lines_of (bytes ++ more)) back.printed
      ∙ ap lines_of (append_assoc (text back) (codes "\n") more)
      ∙ slice_split_at is_line_feed (text back) 10 more (no_byte back.characters back.one_line) refl

  -- it spells the entries, and no others
  line_spells : (r : Entries) (back : ReadsBack names r) → SpellsLine (text back) back.entries
  line_spells r back = record {
    utf8 = (back.characters, (back.scalars, refl));
    tokens = back.tokens;
    scanned = subst (λ cs. Tokens cs back.tokens) (sym (chars-encodes back.characters back.scalars)) back.lexed;
    parsed = back.spelled;
  }

  spells_once : (bytes : List ℕ) (entries others : List Entry) → SpellsLine bytes entries → SpellsLine bytes others → others ≡ entries
  spells_once bytes entries others one other =
      let same = Tokens_once (chars bytes) other.tokens one.tokens other.scanned one.scanned in
      IsLine_once (subst (λ tokens. IsLine tokens others) same other.parsed) one.parsed

  line_spells_only : (r : Entries) (back : ReadsBack names r) → SpellsOnly (text back) back.entries
  line_spells_only r back =
      let spells = line_spells r back in
      record { spelled = spells; only = λ others other. spells_once (text back) back.entries others spells other }

  -- what was read so far
  abbrev so_far : List Entries → List ℕ → Input
  so_far records numbers = record { records = records; lines = numbers; names = names }

  -- what was read with one more record
  grown : (r : Entries) (back : ReadsBack names r) (before : List Entries) (numbers : List ℕ) (n : ℕ)
      → with_record (so_far before numbers) n back.entries ≡ so_far (before ++ r ∷ []) (numbers ++ n ∷ [])
  grown r back before numbers n =
      let made : record_of (with_entries names back.entries) back.entries ≡ r = ap (λ known. record_of known back.entries) back.known ∙ back.same in
      λ i. record { records = before ++ made i ∷ []; lines = numbers ++ n ∷ []; names = back.known i }

  line_goes : AreNames names → (r : Entries) (back : ReadsBack names r) (before : List Entries) (numbers : List ℕ) (n : ℕ) → length before < most_records
      → GoesOn (so_far before numbers) n (text back) (so_far (before ++ r ∷ []) (numbers ++ n ∷ []))
  line_goes are r back before numbers n few =
      let few_names : length (with_entries names back.entries) ≤ most_names = subst (λ known. length known ≤ most_names) (sym back.known) are.few in
      subst (GoesOn (so_far before numbers) n (text back)) (grown r back before numbers n)
      (taken_goes (so_far before numbers) n (text back) back.entries (line_spells_only r back) back.once (record { few = few; few_names = few_names }))

  abbrev Outcome : Type 0
  Outcome = Result Input InputFault

  none_left : {n : ℕ} {input : Input} {result : Outcome} → Reads n input [] result → result ≡ Ok input
  none_left Reads.end = refl

  -- what the lines of the records add to what was read before them
  abbrev IsReadAs : List Entries → List ℕ → ℕ → List Entries → Outcome → Type 0
  IsReadAs before numbers n records result = Reads n (so_far before numbers) (lines_of (printed_file names records)) result ↔ (result ≡ Ok (so_far (before ++ records) (numbers ++ range_with_len n (length records))))

  file_reads : AreNames names → (records before : List Entries) (numbers : List ℕ) (n : ℕ) → All (IsWritable names) records → length before + length records ≤ most_records → (result : Outcome) → IsReadAs before numbers n records result
  file_reads are [] before numbers n writable few result =
      let same : so_far before numbers ≡ so_far (before ++ []) (numbers ++ []) = λ i. so_far (sym (append-nil before) i) (sym (append-nil numbers) i) in
      let past = blank_goes (so_far before numbers) n [] refl [] result in (
        λ reads. none_left (past.0 reads) ∙ ap Ok same,
        λ is. past.1 (subst (Reads (n + 1) (so_far before numbers) []) (sym (is ∙ ap Ok (sym same))) Reads.end),
      )
  file_reads are (r ∷ records) before numbers n writable few result =
      let back = line_reads_back names r are (All-head (IsWritable names) r records writable) in
      let split = first_line r back (printed_file names records) in
      let room : length before < most_records = omega arith in
      let fits : length (before ++ r ∷ []) + length records ≤ most_records = omega (arith, length-append before (r ∷ [])) in
      let goes = line_goes are r back before numbers n room (lines_of (printed_file names records)) result in
      let rest = file_reads are records (before ++ r ∷ []) (numbers ++ n ∷ []) (n + 1) (All-tail (IsWritable names) r records writable) fits result in
      let same : so_far ((before ++ r ∷ []) ++ records) ((numbers ++ n ∷ []) ++ range_with_len (n + 1) (length records)) ≡ so_far (before ++ r ∷ records) (numbers ++ range_with_len n (length (r ∷ records))) =
      λ i. so_far (append_assoc before (r ∷ []) records i) (append_assoc numbers (n ∷ []) (range_with_len (n + 1) (length records)) i) in (
        λ reads. rest.0 (goes.0 (subst (λ ls. Reads n (so_far before numbers) ls result) split reads)) ∙ ap Ok same,
        λ is. subst (λ ls. Reads n (so_far before numbers) ls result) (sym split) (goes.1 (rest.1 (is ∙ ap Ok (sym same)))),
      )

  pub file_gives : AreNames names → (records : List Entries) → All (IsWritable names) records → length records ≤ most_records → ReadsFile names (printed_file names records) (Ok (line_by_line names records))
  file_gives are records writable few = (file_reads are records [] [] 1 writable (omega arith) (Ok (line_by_line names records))).1 refl

  pub file_gives_only : AreNames names → (records : List Entries) (result : Outcome) → All (IsWritable names) records → length records ≤ most_records → ReadsFile names (printed_file names records) result → result ≡ Ok (line_by_line names records)
  file_gives_only are records result writable few = (file_reads are records [] [] 1 writable (omega arith) result).0

  pub line_gives : AreNames names → (shown : Entries) → IsWritable names shown → ReadsFile names (line names shown) (Ok (line_by_line names (shown ∷ [])))
  line_gives are shown writable =
      subst (λ bytes. ReadsFile names bytes (Ok (line_by_line names (shown ∷ [])))) (append-nil (line names shown))
      (file_gives are (shown ∷ []) (All-cons (IsWritable names) shown [] writable (All-nil (IsWritable names))) (omega arith))
