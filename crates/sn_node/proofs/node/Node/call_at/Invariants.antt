use Rattle.std.proofs.Common.{◌≡◌, ◌<◌, ℕ}
use Rattle.std.specs.Prelude.{slice_get, Some}
use Rattle.sn_view.specs.View.{InFlight}
use Rattle.sn_node.specs.Seen.{node_of}
use Rattle.sn_node.proofs.node.Node.call_at.Given as goal

abbrev pub invariant-loop-p : goal.invariant-loop-p
invariant-loop-p l = (i : ℕ) → i < l.p → slice_get (node_of l.self).waiting i ≡ Some (InFlight l.call l.given) → ⊥
