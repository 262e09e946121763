use Rattle.sn_streams.proofs.Lists.{to_lists, from_lists}
use Rattle.sn_streams.proofs.laws.shuffles_of_lists.Goals as goal

pub returns : goal.returns
returns g c = λ keys lists ys distinct none. (to_lists ys lists keys distinct none, from_lists ys lists keys distinct none)
