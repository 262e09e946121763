use Rattle.std.proofs.Common.{◌≡◌, ◌<◌, ℕ, get_or, not, false}
use Rattle.sn_record.specs.declared.item.Item.{Item}
use Rattle.sn_plain.specs.Sample.{is_item_of_type}
use Rattle.sn_counts.proofs.sample.first_untyped.Given as goal

abbrev pub invariant-loop-i : goal.invariant-loop-i
invariant-loop-i l = (k : ℕ) (d : Item) → k < l.i → not (is_item_of_type l.variants (get_or l.items k d)) ≡ false
