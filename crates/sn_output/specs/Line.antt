-- The printed line of a record.
use Rattle.std.specs.Prelude.{ℕ, zero, suc, ◌==◌, ◌||◌, List, [], ◌∷◌, ◌++◌, map, codes, if◌then◌else◌}
use Rattle.std.specs.List.{flat_map}
use Rattle.std.specs.Fmt.{signed_decimal}
use Rattle.std.specs.declared.cmp.Ordering.{Ordering}
use Rattle.std.specs.Ordering.{nat_cmp, on, then_cmp}
use Rattle.std.specs.Cmp.{IsTotalOrder, nat_cmp_total, on_total, then_total}
use Rattle.std.specs.Cmp.Lexicographic.{slice_cmp, nat_list_cmp_total}
use Rattle.std.specs.FinMap as finite
use Rattle.sn_record.specs.declared.label.Kind.{Kind}
use Rattle.sn_record.specs.declared.label.Kind.TheVariants.{Field, Tag}
use Rattle.sn_record.specs.declared.label.Label.{Label}
use Rattle.sn_record.specs.declared.value.Value.{Value, fold-Value}
use Rattle.sn_record.specs.declared.value.Value.TheOpen.{Value-F}
use Rattle.sn_record.specs.Label.{kind_rank}
use Rattle.sn_record.specs.Record.{Entries}
use Rattle.sn_names.specs.Names.{label_name}

-- texts with a separator between any two
abbrev pub joined : List ℕ → List (List ℕ) → List ℕ
joined separator [] = []
joined separator (text ∷ more) = text ++ flat_map (λ next. separator ++ next) more

-- what stands before a text at a place
abbrev pub led_by : List ℕ → ℕ → List ℕ
led_by separator zero = []
led_by separator (suc i) = separator

-- a quote and a backslash have a backslash in front
abbrev pub escaped : ℕ → List ℕ
escaped byte = if byte == 34 || byte == 92 then 92 ∷ byte ∷ [] else byte ∷ []

-- between quotes
abbrev pub quoted : List ℕ → List ℕ
quoted text = 34 ∷ (flat_map escaped text ++ 34 ∷ [])

-- how one level of a value is printed, with each element's text in its place
abbrev pub value_step : Value-F (List ℕ) → List ℕ
value_step (Value-F.Int n) = signed_decimal n
value_step (Value-F.Text text) = quoted text
value_step (Value-F.List texts) = codes "[" ++ (joined (codes ", ") texts ++ codes "]")

abbrev pub value_text : Value → List ℕ
value_text = fold-Value (List ℕ) value_step

-- a field by its name, a tag in angle brackets
abbrev pub printed_label : Kind → List ℕ → List ℕ
printed_label Field name = name
printed_label Tag name = codes "<" ++ (name ++ codes ">")

abbrev pub entry_text : List (List ℕ) → Label × Value → List ℕ
entry_text names entry = printed_label entry.0.kind (label_name names entry.0.id) ++ (codes "=" ++ value_text entry.1)

-- fields before tags, and then by name; labels whose names tie, by number
abbrev pub by_name : List (List ℕ) → Label → Label → Ordering
by_name names = then_cmp (on (λ l. kind_rank l.kind) nat_cmp) (then_cmp (on (λ l. label_name names l.id) (slice_cmp nat_cmp)) (on (λ l. l.id) nat_cmp))

pub by_name_total : (names : List (List ℕ)) → IsTotalOrder (by_name names)
by_name_total names = then_total (on_total (λ l. kind_rank l.kind) nat_cmp_total) (then_total (on_total (λ l. label_name names l.id) nat_list_cmp_total) (on_total (λ l. l.id) nat_cmp_total))

-- the entries of a record in the order in which they are printed
abbrev pub in_order : List (List ℕ) → Entries → List (Label × Value)
in_order names r = finite.entries (finite.from_entries {R = by_name names} (finite.entries r))

abbrev pub line : List (List ℕ) → Entries → List ℕ
line names r = codes "{" ++ (joined (codes ", ") (map (entry_text names) (in_order names r)) ++ codes "}\n")
