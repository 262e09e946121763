use Rattle.sn_view.proofs.Apart.{own-first}
use Rattle.sn_view.proofs.laws.own_is_first.Goals as goal

pub returns : goal.returns
returns c = record { first = λ g i n placed there fork. own-first g placed i n there fork }
