-- The printed line of a record reads back as the record.
use Rattle.std.proofs.Common.{ℕ, List, [], ◌++◌, map, append_assoc, append-nil, codes, sym, ap, ◌∙◌, subst}
use Rattle.std.specs.FinMap.{from_entries}
use Rattle.sn_record.specs.Label.{label_cmp}
use Rattle.sn_record.specs.Record.{Entries}
use Rattle.sn_names.specs.Names.{AreNames}
use Rattle.sn_record_tokens.specs.Tokens.{Tokens}
use Rattle.sn_record_tokens.specs.Tokens.Tokens.{end}
use Rattle.sn_output.specs.Line.{joined, entry_text, in_order}
use Rattle.sn_record_roundtrip.specs.ReadsBack.{ReadsBack}
use Rattle.sn_record_roundtrip.specs.Writable.{IsWritable}
use Rattle.sn_record_roundtrip.proofs.Characters.{inline_scalars, inline_one_line}
use Rattle.sn_record_roundtrip.proofs.Entries.{written, line_reads}
use Rattle.sn_record_roundtrip.proofs.Orders.{ordered_good, ordered_same, ordered_sorted, entries_back}
use Rattle.sn_record_roundtrip.proofs.Labels.{none_repeats, none_new}
use Rattle.sn_record_roundtrip.proofs.Readings.{Closes, Reads}

at_end : Closes []
at_end = record { name = tt; number = tt }

alone : {text : List ℕ} (x : Reads text) → Tokens x.piece (x.says [])
alone x = subst (λ cs. Tokens cs (x.says [])) (append-nil x.piece) (x.tells [] [] at_end end)

pub line_reads_back : (names : List (List ℕ)) (r : Entries) → AreNames names → IsWritable names r → ReadsBack names r
line_reads_back names r are writable =
    let es = in_order names r in
    let good = ordered_good names r writable in
    let read = line_reads names es good in
    let back = entries_back names are.distinct es good in
    record {
      characters = read.reads.piece;
      scalars = inline_scalars read.reads.piece read.reads.inline;
      one_line = inline_one_line read.reads.piece read.reads.inline;
      printed =
          ap (λ t. codes "{" ++ t) (sym (append_assoc (joined (codes ", ") (map (entry_text names) es)) (codes "}") (codes "\n")))
          ∙ ap (λ t. t ++ codes "\n") (sym read.reads.encoded);
      tokens = read.reads.says [];
      lexed = alone read.reads;
      entries = map (written names) es;
      spelled = read.line;
      once = none_repeats names are.distinct es (ordered_sorted names r) good;
      known = none_new names are.distinct es good;
      same = ap (λ xs. from_entries {R = label_cmp} xs) back ∙ ordered_same names r;
    }
