use Rattle.std.proofs.Common.{◌≡◌, take, false}
use Rattle.std.specs.List.{list_any}
use Rattle.sn_node.specs.Waiting.{is_free}
use Rattle.sn_node.proofs.queue.Queue.first_free.Given as goal

abbrev pub invariant-loop-p : goal.invariant-loop-p
invariant-loop-p l = list_any is_free (take l.p l.self.entries.items) ≡ false
