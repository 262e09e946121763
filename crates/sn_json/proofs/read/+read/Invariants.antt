use Rattle.std.proofs.Common.{◌≡◌, drop}
use Rattle.serde_json.specs.View.{items_view}
use Rattle.sn_json.specs.Reading.{values_of}
use Rattle.sn_json.proofs.OneByOne.{behind}
use Rattle.sn_json.proofs.read.+read.Given as goal

abbrev pub invariant-read_values-loop-item : goal.invariant-read_values-loop-item
invariant-read_values-loop-item l = values_of (items_view l.items) ≡ behind l.values (values_of (items_view (drop l.item-index l.items)))
