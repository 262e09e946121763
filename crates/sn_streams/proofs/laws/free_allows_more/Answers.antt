use Rattle.sn_streams.proofs.Trees.{also_freely}
use Rattle.sn_streams.proofs.laws.free_allows_more.Goals as goal

pub returns : goal.returns
returns g c = λ r child xss yss h. also_freely r child xss yss h
