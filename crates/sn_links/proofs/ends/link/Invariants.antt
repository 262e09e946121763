use Rattle.std.proofs.Common.{Some}
use Rattle.sn_links.proofs.ends.link.Given as goal

abbrev pub ghosts-made : goal.ghosts-made
ghosts-made a = record { owner = Some a.target }
