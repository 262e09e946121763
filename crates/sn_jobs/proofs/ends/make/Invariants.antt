use Rattle.std.proofs.Common.{Some}
use Rattle.sn_jobs.proofs.ends.make.Given as goal

abbrev pub ghosts-made : goal.ghosts-made
ghosts-made a = record { owner = Some a.run.now.value }
