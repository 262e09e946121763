use Rattle.std.proofs.Common.{[], IsTrue}
use Rattle.std.specs.List.{list_all}
use Rattle.sn_net.specs.Face.{is_numbered}
use Rattle.sn_tests.proofs.net.sinks.Given as goal

abbrev pub invariant-loop-label : goal.invariant-loop-label
invariant-loop-label g l = IsTrue (list_all (is_numbered []) l.branches)
