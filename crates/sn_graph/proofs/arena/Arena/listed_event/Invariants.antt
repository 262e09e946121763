use Rattle.std.proofs.Common.{◌≡◌, ℕ, ◌≤◌, false, length}
use Rattle.std.specs.Prelude.{Some, slice_get}
use Rattle.sn_view.specs.Next.{enabled}
use Rattle.sn_view.specs.Touched.{happens_at}
use Rattle.sn_view.specs.View as view
use Rattle.sn_graph.specs.Arena.{view_of}
use Rattle.sn_graph.proofs.arena.Arena.listed_event.Given as goal

abbrev pub invariant-loop-k : goal.invariant-loop-k
invariant-loop-k l = record {
  few : l.k ≤ length l.listed;
  none : (m i : ℕ) (e : view.Happening) → l.k ≤ m → slice_get l.listed m ≡ Some i → happens_at e ≡ Some i → enabled (view_of l.self) e ≡ false;
}

abbrev pub decreases-loop-k : goal.decreases-loop-k
decreases-loop-k l = l.k
