use Rattle.std.proofs.Common.{◌≡◌, ◌≤◌, vec_len}
use Rattle.drive.specs.Driven.{events_of}
use Rattle.drive.proofs.driving.Drive.answer_all.Given as goal

abbrev pub invariant-loop-job : goal.invariant-loop-job
invariant-loop-job l = (l.self.run.value ≡ l.initial.self.run.value) × (events_of l.initial.self.graph ≤ events_of l.self.graph)

abbrev pub decreases-loop-job : goal.decreases-loop-job
decreases-loop-job l = vec_len l.self.calls
