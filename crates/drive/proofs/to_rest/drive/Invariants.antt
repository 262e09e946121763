use Rattle.std.proofs.Common.{◌≡◌, ◌-◌}
use Rattle.drive.specs.Driven.{events_of}
use Rattle.drive.specs.declared.driving.TheConstants.{MOST_EVENTS}
use Rattle.drive.proofs.to_rest.drive.Given as goal

abbrev pub invariant-loop-drive : goal.invariant-loop-drive
invariant-loop-drive l = l.drive.run.value ≡ l.initial.drive.run.value

abbrev pub decreases-loop-drive : goal.decreases-loop-drive
decreases-loop-drive l = MOST_EVENTS - events_of l.drive.graph
