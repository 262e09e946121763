-- The counters of a stream's records, up to the first item that is none.
use Rattle.std.specs.Prelude.{ℕ, ℤ, pos, unsigned_abs, ◌+◌, ◌*◌, ◌%◌, if◌then◌else◌, List, [], ◌∷◌, ◌++◌, codes, Option, None, Some}
use Rattle.std.specs.FinMap as finite
use Rattle.std.specs.Fmt.{decimal}
use Rattle.std.specs.Int.{int_rem_euclid}
use Rattle.sn_record.specs.declared.label.Kind.{Kind}
use Rattle.sn_record.specs.declared.label.Kind.TheVariants.{Field, Tag}
use Rattle.sn_record.specs.declared.value.Value.{Value}
use Rattle.sn_record.specs.declared.value.Value.TheOpen.{Value-F}
use Rattle.sn_record.specs.declared.value.Value.TheViews.{out-Value}
use Rattle.sn_record.specs.Record.{Entries}
use Rattle.sn_names.specs.Names.{is_held}
use Rattle.sn_net.specs.Item.{ModelItem, Rec, Fault, Stuck}
use Rattle.sn_sample.specs.Records.{label}

-- the integer that a value is, and 0 for any other
abbrev pub int_in : Value-F Value → ℤ
int_in (Value-F.Int n) = n
int_in (Value-F.Text text) = pos 0
int_in (Value-F.List values) = pos 0

abbrev pub int_there : Option Value → ℤ
int_there None = pos 0
int_there (Some value) = int_in (out-Value value)

-- the integer at a name's label, and 0 where the record has none there
abbrev pub int_at : List (List ℕ) → Kind → List ℕ → Entries → ℤ
int_at names kind name r = if is_held names name then int_there (finite.get r (label names kind name)) else pos 0

-- the rest of a division by 4,294,967,296, which is never negative
abbrev pub rest : ℤ → ℕ
rest n = unsigned_abs (int_rem_euclid n (pos 4294967296))

-- how many records there were; the rests of the sums of `<s>` and of `w`; and a mix of both that tells their order
pub record Counts : Type 0 where
  pub records : ℕ
  pub s : ℕ
  pub w : ℕ
  pub mix : ℕ

abbrev pub nothing_counted : Counts
nothing_counted = record { records = 0; s = 0; w = 0; mix = 0 }

-- with the integers of one more record
abbrev pub with_integers : Counts → ℤ → ℤ → Counts
with_integers counts s w = record {
  records = counts.records + 1;
  s = (counts.s + rest s) % 4294967296;
  w = (counts.w + rest w) % 4294967296;
  mix = (31 * counts.mix + rest s + rest w) % 4294967296;
}

abbrev pub with_record : List (List ℕ) → Counts → Entries → Counts
with_record names counts r = with_integers counts (int_at names Tag (codes "s") r) (int_at names Field (codes "w") r)

-- with the records of a stream, up to the first item that is none
abbrev pub counted_on : List (List ℕ) → Counts → List ModelItem → Counts
counted_on names counts [] = counts
counted_on names counts (Rec r ∷ items) = counted_on names (with_record names counts r) items
counted_on names counts (Fault fault ∷ items) = counts
counted_on names counts (Stuck place ∷ items) = counts

abbrev pub counted : List (List ℕ) → List ModelItem → Counts
counted names items = counted_on names nothing_counted items

-- the line that says them
abbrev pub counts_line : Counts → List ℕ
counts_line counts = codes "records=" ++ (decimal counts.records ++ (codes " s=" ++ (decimal counts.s ++ (codes " w=" ++ (decimal counts.w ++ (codes " mix=" ++ (decimal counts.mix ++ codes "\n")))))))
