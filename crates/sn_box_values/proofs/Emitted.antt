-- A record for which no more values are left.
use Rattle.std.proofs.Common.{◌≡◌, List, [], ◌∷◌, length, Ok, refl, arith}
use Rattle.sn_record.specs.declared.label.Label.{Label}
use Rattle.sn_record.specs.Record.{Entries}
use Rattle.sn_net.specs.BoxEvaluation.{with_values}
use Rattle.sn_box_values.specs.Datum.{values_of}
use Rattle.sn_box_values.specs.declared.datum.Datum.{Datum}

pub no_values : (labels : List Label) (left : List Datum) (made : Entries) → length left ≡ 0 → with_values labels (values_of left) made ≡ Ok made
no_values [] left made none = refl
no_values (label ∷ labels) [] made none = refl
no_values (label ∷ labels) (datum ∷ left) made none = absurd (omega arith)
