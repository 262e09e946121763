use Rattle.std.proofs.Common.{◌≡◌, map, take}
use Rattle.serde_json.specs.View.{view}
use Rattle.sn_json.specs.Writing.{data_of}
use Rattle.sn_json.proofs.write.+json.Given as goal

abbrev pub invariant-json_values-loop-value : goal.invariant-json_values-loop-value
invariant-json_values-loop-value l = map view l.items.items ≡ map data_of (take l.value-index l.values)
