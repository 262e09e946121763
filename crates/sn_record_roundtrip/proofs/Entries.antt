-- The text of the entries of a record reads back as those entries.
use Rattle.std.proofs.Common.{◌≡◌, ℕ, List, [], ◌∷◌, ◌++◌, map, append_assoc, codes, refl, sym, ap, ◌∙◌}
use Rattle.std.specs.List.{All, flat_map}
use Rattle.std.proofs.lemmas.List.Elements.{All-head, All-tail}
use Rattle.sn_record.specs.declared.label.Kind.{Kind}
use Rattle.sn_record.specs.declared.label.Kind.TheVariants.{Field, Tag}
use Rattle.sn_record.specs.declared.label.Label.{Label}
use Rattle.sn_record.specs.declared.value.Value.{Value}
use Rattle.sn_record.specs.Record.{FitsLabel}
use Rattle.sn_names.specs.Names.{label_name}
use Rattle.sn_record_tokens.specs.declared.token.Mark.TheVariants.{OpenRecord, CloseRecord, Equals}
use Rattle.sn_record_tokens.specs.declared.token.Token.{Token}
use Rattle.sn_record_parser.specs.declared.entry.Entry.{Entry}
use Rattle.sn_record_parser.specs.Grammar.{IsEntry, AreFurther, IsLine, tag}
use Rattle.sn_record_parser.specs.Grammar.IsEntry.{field_at, tag_at}
use Rattle.sn_record_parser.specs.Grammar.AreFurther.{end as none_further, next as next_entry}
use Rattle.sn_record_parser.specs.Grammar.IsLine.{empty as empty_line, entries as filled_line}
use Rattle.sn_output.specs.Line.{joined, value_text, entry_text}
use Rattle.sn_record_roundtrip.specs.Writable.{AreBounded, HasName}
use Rattle.sn_record_roundtrip.proofs.Readings.{Reads, Marked, nothing, before, opened, led, same_text, same_marked}
use Rattle.sn_record_roundtrip.proofs.Values.{value_reads, int_is, value_text-Int}
use Rattle.sn_record_roundtrip.proofs.Words.{name_reads, tag_reads, number_reads}

-- an entry with the name of its label
abbrev pub written : List (List ℕ) → Label × Value → Entry
written names e = record { label = record { kind = e.0.kind; name = label_name names e.0.id }; value = e.1 }

-- What there is to know of an entry.
pub record IsGood (names : List (List ℕ)) (e : Label × Value) : Type 0 where
  pub fits : FitsLabel e.0 e.1
  pub bounded : AreBounded e.1
  pub named : HasName names e.0

module _ (names : List (List ℕ)) where
  -- The text of an entry is read as it, whatever follows.
  record EntryReads (e : Label × Value) : Type 0 where
    reads : Reads (entry_text names e)
    entry : (us : List Token) → IsEntry (reads.says us) (written names e) us

  abbrev label : Kind → ℕ → Label
  label kind id = record { kind = kind; id = id }

  entry_at : (kind : Kind) (id : ℕ) (v : Value) → IsGood names (label kind id, v) → EntryReads (label kind id, v)
  entry_at Field id v good =
      let value = value_reads v good.fits.sound.printable good.bounded in
      record {
        reads = before (name_reads good.named.word (label_name names id) good.named.spelled) (opened Equals value.reads);
        entry = λ us. field_at (value.value us) good.fits.sound refl;
      }
  entry_at Tag id v good =
      let number = int_is v (good.fits.tag refl) good.bounded in
      let shown = value_text-Int number.number in
      let same = ap (λ t. (codes "<" ++ (label_name names id ++ codes ">")) ++ (codes "=" ++ t)) (sym (ap value_text number.is ∙ shown)) in
      record {
        reads = same_text same (before (tag_reads good.named.word (label_name names id) good.named.spelled) (opened Equals (number_reads number.number number.fits)));
        entry = λ us. tag_at (ap (λ w. let e : Entry = record { label = tag (label_name names id); value = w } in e) number.is);
      }

  entry_reads : (e : Label × Value) → IsGood names e → EntryReads e
  entry_reads e good = entry_at e.0.kind e.0.id e.1 good

  -- the texts of further entries
  abbrev further_text : List (Label × Value) → List ℕ
  further_text es = flat_map (λ next. codes ", " ++ next) (map (entry_text names) es)

  -- They are read as those, up to the record's end.
  record FurtherReads (es : List (Label × Value)) : Type 0 where
    marked : Marked (further_text es ++ codes "}")
    further : (us : List Token) → AreFurther (marked.reads.says us) (map (written names) es) us

  further_reads : (es : List (Label × Value)) → All (IsGood names) es → FurtherReads es
  further_reads [] good = record { marked = opened CloseRecord nothing; further = λ us. none_further }
  further_reads (e ∷ es) good =
      let first = entry_reads e (All-head (IsGood names) e es good) in
      let rest = further_reads es (All-tail (IsGood names) e es good) in
      let same : codes ", " ++ (entry_text names e ++ (further_text es ++ codes "}")) ≡ further_text (e ∷ es) ++ codes "}" =
      ap (λ t. codes ", " ++ t) (sym (append_assoc (entry_text names e) (further_text es) (codes "}"))) in
      record {
        marked = same_marked same (led (before first.reads rest.marked));
        further = λ us. next_entry (first.entry _) (rest.further us);
      }

  -- The text of a record is read as its entries.
  pub record LineReads (es : List (Label × Value)) : Type 0 where
    pub reads : Reads (codes "{" ++ (joined (codes ", ") (map (entry_text names) es) ++ codes "}"))
    pub line : IsLine (reads.says []) (map (written names) es)

  pub line_reads : (es : List (Label × Value)) → All (IsGood names) es → LineReads es
  line_reads [] good = record { reads = (opened OpenRecord (opened CloseRecord nothing).reads).reads; line = empty_line }
  line_reads (e ∷ es) good =
      let first = entry_reads e (All-head (IsGood names) e es good) in
      let rest = further_reads es (All-tail (IsGood names) e es good) in
      let same : codes "{" ++ (entry_text names e ++ (further_text es ++ codes "}")) ≡ codes "{" ++ ((entry_text names e ++ further_text es) ++ codes "}") =
      ap (λ t. codes "{" ++ t) (sym (append_assoc (entry_text names e) (further_text es) (codes "}"))) in
      record {
        reads = same_text same (opened OpenRecord (before first.reads rest.marked)).reads;
        line = filled_line (first.entry _) (rest.further []);
      }
