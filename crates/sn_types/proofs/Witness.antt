-- Each variant has a record with its labels and no others, so subtypes can be told by their records.
use Rattle.std.proofs.Common.{◌≡◌, ◌↔◌, ◌||◌, List, [], ◌∷◌, pos, sym, ap, ◌∙◌, is_some}
use Rattle.std.specs.FinMap as map
use Rattle.std.specs.List.{Contains, list_any}
use Rattle.std.specs.Ordering.{eq_by_cmp}
use Rattle.std.proofs.lemmas.List.Elements.{All-contains, All-contains_itself, All-weaker}
use Rattle.sn_record.specs.declared.label.Label.{Label}
use Rattle.sn_record.specs.declared.value.Value.{Value}
use Rattle.sn_record.specs.declared.value.Value.TheVariants.{Int}
use Rattle.sn_record.specs.Label.{label_cmp}
use Rattle.sn_record.specs.LabelSet.{Labels, contains}
use Rattle.sn_record.specs.Record.{Entries, IsRecord, Matches}
use Rattle.sn_record.proofs.Fitting.{fits_itself, fits_same, fits_through}
use Rattle.sn_record.proofs.Records.{contains_key-insert, IsRecord-empty, IsRecord-insert}
use Rattle.sn_record.proofs.Values.{FitsLabel-Int}
use Rattle.sn_types.specs.RecordType.{HasFit, IsOfType, IsSubtype}

abbrev nought : Value
nought = Int (pos 0)

-- the record with 0 at each of the labels
abbrev noughts : List Label → Entries
noughts [] = map.empty
noughts (l ∷ ls) = map.insert (noughts ls) l nought

contains_key-noughts : (ls : List Label) (q : Label) → map.contains_key (noughts ls) q ≡ list_any (eq_by_cmp label_cmp q) ls
contains_key-noughts [] q = ap is_some (map.get-empty label_cmp q)
contains_key-noughts (l ∷ ls) q = contains_key-insert (noughts ls) l nought q ∙ ap (λ b. eq_by_cmp label_cmp q l || b) (contains_key-noughts ls q)

-- the record has the labels of v
abbrev record_of : Labels → Entries
record_of v = noughts (map.keys v)

contains_key-record_of : (v : Labels) (l : Label) → map.contains_key (record_of v) l ≡ contains v l
contains_key-record_of v l = contains_key-noughts (map.keys v) l ∙ sym (map.contains_key-keys v l)

IsRecord-noughts : (ls : List Label) → IsRecord (noughts ls)
IsRecord-noughts [] = IsRecord-empty
IsRecord-noughts (l ∷ ls) = IsRecord-insert (noughts ls) l nought (IsRecord-noughts ls) (FitsLabel-Int l (pos 0))

matched_itself : (v : Labels) → Matches (record_of v) v
matched_itself v = fits_same (contains v) (map.contains_key (record_of v)) v (λ l. sym (contains_key-record_of v l)) (fits_itself v)

-- where each record of x is of y, a variant of y fits each variant of x: the record with its labels matches one
by_records : (x y : List Labels) → ((r : Entries) → IsRecord r → IsOfType x r → IsOfType y r) → (v : Labels) → Contains x v → HasFit y v
by_records x y over v there =
    let matched = over (record_of v) (IsRecord-noughts (map.keys v)) (there.0, v, there.1, there.2, matched_itself v) in
    record {
      variant = matched.1;
      listed = (matched.0, matched.2, matched.3);
      fits = fits_same (map.contains_key (record_of v)) (contains v) matched.1 (contains_key-record_of v) matched.4;
    }

of_supertype : (x y : List Labels) → IsSubtype x y → (r : Entries) → IsOfType x r → IsOfType y r
of_supertype x y subtype r matched =
    let under = All-contains (HasFit y) x matched.1 subtype (matched.0, matched.2, matched.3) in
    (under.listed.0, under.variant, under.listed.1, under.listed.2, fits_through (map.contains_key r) under.variant matched.1 under.fits matched.4)

pub subtypes_by_records : (x y : List Labels) → IsSubtype x y ↔ ((r : Entries) → IsRecord r → IsOfType x r → IsOfType y r)
subtypes_by_records x y = (
  λ subtype r sound matched. of_supertype x y subtype r matched,
  λ over. All-weaker (Contains x) (HasFit y) (by_records x y over) x (All-contains_itself x),
)
