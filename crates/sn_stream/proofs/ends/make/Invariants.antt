use Rattle.sn_stream.specs.Ends.{stated_at}
use Rattle.sn_stream.proofs.ends.make.Given as goal

abbrev pub ghosts-made : goal.ghosts-made
ghosts-made a = record { stated = stated_at a.run.now.value a.place.now }
