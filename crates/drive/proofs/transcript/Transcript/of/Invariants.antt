use Rattle.std.proofs.Common.{◌≡◌, ◌++◌, drop, map}
use Rattle.sn_net.specs.Item.{modelled}
use Rattle.sn_output.specs.Printed.{ending, printed}
use Rattle.drive.proofs.transcript.Transcript.of.Given as goal

abbrev pub invariant-loop-item : goal.invariant-loop-item
invariant-loop-item l = record {
  text : l.text ++ printed l.names (map modelled (drop l.item-index l.items)) ≡ printed l.names (map modelled l.items);
  fault : ending (map modelled (drop l.item-index l.items)) ≡ ending (map modelled l.items);
}
