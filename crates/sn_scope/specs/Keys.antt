-- What a variant is hashed by.
use Rattle.std.specs.Prelude.{◌≡◌, Bool, true, ◌&&◌, Decides, IsTrue, ◌++◌}
use mathlib.Core.Path.{sym, ap, ◌∙◌}
use Rattle.std.specs.List.{flat_map}
use Rattle.std.specs.Ordering.{eq_by_cmp}
use Rattle.std.specs.Cmp.{Equal-is, first_so, eq_by_cmp_equiv}
use Rattle.std.specs.Cmp.Lexicographic.{pointwise, pointwise_decides}
use Rattle.std.specs.Hash as fed
use Rattle.std.specs.Hash.{HashWrites}
use Rattle.std.specs.FinMap as map
use Rattle.sn_record.specs.declared.label.Label.{Label}
use Rattle.sn_record.specs.Label.{kind_rank, label_cmp, label_cmp_total, label_cmp-IsAntisymmetric}
use Rattle.sn_record.specs.LabelSet.{Labels}

-- what a label writes: its kind and its number
abbrev pub label_writes : Label → HashWrites
label_writes l = fed.u8 (kind_rank l.kind) ++ fed.u32 l.id

-- what a variant writes: each of its labels in turn
abbrev pub key_writes : Labels → HashWrites
key_writes v = flat_map label_writes (map.keys v)

-- labels that tie are one
pub label_Decides : (l m : Label) → Decides (eq_by_cmp label_cmp l m) (l ≡ m)
label_Decides l m = (
  λ tie. label_cmp-IsAntisymmetric l m ((Equal-is (label_cmp l m)).0 tie),
  λ same. ap (eq_by_cmp label_cmp l) (sym same) ∙ (eq_by_cmp_equiv label_cmp_total).refl l,
)

-- how a set compares its entries, each of which is a label beside nothing
abbrev pub entry_eq : Label × Unit {0} → Label × Unit {0} → Bool
entry_eq d e = eq_by_cmp label_cmp d.0 e.0 && true

-- entries that tie are one
entry_Decides : (d e : Label × Unit {0}) → Decides (entry_eq d e) (d ≡ e)
entry_Decides d e = (
  λ tie. ap (λ l. (l, tt)) ((label_Decides d.0 e.0).0 (first_so _ true tie)),
  λ same. ap (λ b. b && true) ((label_Decides d.0 e.0).1 (ap (λ e. e.0) same)),
)

-- variants that a set's own test finds equal are one
pub set_Decides : (v w : Labels) → Decides (pointwise entry_eq (map.entries v) (map.entries w)) (v ≡ w)
set_Decides v w =
    let entries = pointwise_decides entry_Decides (map.entries v) (map.entries w) in
    (λ tie. map.same_entries_map v w (entries.0 tie), λ same. entries.1 (ap map.entries same))

-- variants that a set's own test finds equal write the same
pub same_writes : (v w : Labels) → IsTrue (pointwise entry_eq (map.entries v) (map.entries w)) → key_writes v ≡ key_writes w
same_writes v w tie = ap key_writes ((set_Decides v w).0 tie)
