use Rattle.std.proofs.Common.{◌≡◌, ◌≤◌, drop, length}
use Rattle.std.specs.FinMap.{entries}
use Rattle.serde_json.specs.View.{members_view}
use Rattle.sn_json.specs.Writing.{members_of}
use Rattle.sn_json.proofs.write.json_of.Given as goal

-- the entries from the i-th on have their members
abbrev pub invariant-loop-i : goal.invariant-loop-i
invariant-loop-i l = (l.i ≤ length (entries l.shown)) × (members_view l.members.entries ≡ members_of l.names (drop l.i (entries l.shown)))

abbrev pub decreases-loop-i : goal.decreases-loop-i
decreases-loop-i l = l.i
