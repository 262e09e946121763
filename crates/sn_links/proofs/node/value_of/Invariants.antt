use Rattle.std.proofs.Common.{◌≡◌, slice_get, drop}
use Rattle.sn_links.specs.Nodes.{values_of}
use Rattle.sn_links.proofs.node.value_of.Given as goal

abbrev pub invariant-loop-step : goal.invariant-loop-step
invariant-loop-step l = slice_get (values_of (drop l.step-index l.steps)) l.left ≡ slice_get (values_of l.fn.steps) l.fn.split
