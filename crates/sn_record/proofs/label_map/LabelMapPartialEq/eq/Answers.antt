use Rattle.std.proofs.Common.{◌∙◌, ◌&&◌, refl}
use Rattle.std.specs.Cmp.Lexicographic.{pointwise}
use Rattle.sn_record.specs.contracts.label.LabelOrd.TheImpl.Laws.{matches_eq-law}
use Rattle.sn_record.proofs.Maps.{entries-from_sorted}
use Rattle.sn_record.proofs.label_map.LabelMapPartialEq.eq.Goals as goal

pub returns : goal.returns
returns g c =
    c.eq.ensures ∙ (λ i. pointwise (λ x y. matches_eq-law x.0 y.0 i && g.V.PartialEq.eq x.1 y.1) c.self.inside.entries.items c.other.inside.entries.items)
    ∙ rw (← c.self.view_is, ← c.other.view_is, entries-from_sorted _ c.self.invariant, entries-from_sorted _ c.other.invariant) refl
