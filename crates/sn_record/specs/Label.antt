-- The order of labels: fields before tags, and then by number. The tags with the greatest numbers are binding.
use Rattle.std.specs.Prelude.{◌≡◌, ℕ, refl, Bool, true, false, ◌&&◌, nat_le}
use Rattle.std.specs.declared.cmp.Ordering.{Ordering}
use Rattle.std.specs.declared.cmp.Ordering.TheVariants.{Equal}
use Rattle.std.specs.Ordering.{nat_cmp, on, then_cmp, ordering_then}
use Rattle.std.specs.Cmp.{IsTotalOrder, nat_cmp_total, on_total, then_total}
use Rattle.std.specs.FinMap.{IsAntisymmetric, nat_cmp-IsAntisymmetric}
use Rattle.sn_record.specs.declared.label.Kind.{Kind}
use Rattle.sn_record.specs.declared.label.Kind.TheVariants.{Field, Tag}
use Rattle.sn_record.specs.declared.label.Label.{Label}

abbrev pub kind_rank : Kind → ℕ
kind_rank Field = 0
kind_rank Tag = 1

abbrev pub label_cmp : Label → Label → Ordering
label_cmp = then_cmp (on (λ l. kind_rank l.kind) nat_cmp) (on (λ l. l.id) nat_cmp)

pub label_cmp_total : IsTotalOrder label_cmp
label_cmp_total = then_total (on_total (λ l. kind_rank l.kind) nat_cmp_total) (on_total (λ l. l.id) nat_cmp_total)

-- kinds that tie are one
same_kind : (a b : Kind) (r : Ordering) → ordering_then (nat_cmp (kind_rank a) (kind_rank b)) r ≡ Equal → (a ≡ b) × (r ≡ Equal)
same_kind Field Field r e = (refl, e)
same_kind Field Tag r e = cc
same_kind Tag Field r e = cc
same_kind Tag Tag r e = (refl, e)

-- labels that tie are one
pub label_cmp-IsAntisymmetric : IsAntisymmetric label_cmp
label_cmp-IsAntisymmetric x y e =
    let kinds = same_kind x.kind y.kind (nat_cmp x.id y.id) e in
    let ids = nat_cmp-IsAntisymmetric x.id y.id kinds.1 in
    λ i. record { kind = kinds.0 i; id = ids i }

abbrev pub is_tag : Kind → Bool
is_tag Field = false
is_tag Tag = true

-- the least number of a binding tag
abbrev pub first_binding : ℕ
first_binding = 2147483648

-- whether the label is a binding tag
abbrev pub is_binding : Label → Bool
is_binding l = is_tag l.kind && nat_le first_binding l.id
