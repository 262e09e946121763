use Rattle.std.proofs.Common.{◌≡◌, drop, map}
use Rattle.sn_net.specs.Item.{modelled}
use Rattle.sn_output.specs.Printed.{ending}
use Rattle.sn_sample.specs.Counts.{counts_of}
use Rattle.sn_sample.specs.Tally.{counted, counted_on}
use Rattle.sn_counts.proofs.sample.count_items.Given as goal

-- what is still to come, counted on, gives what the whole does
abbrev pub invariant-loop-item : goal.invariant-loop-item
invariant-loop-item l = record {
  counters : counted_on l.names (counts_of l.tally) (map modelled (drop l.item-index l.items)) ≡ counted l.names (map modelled l.items);
  fault : ending (map modelled (drop l.item-index l.items)) ≡ ending (map modelled l.items);
}
