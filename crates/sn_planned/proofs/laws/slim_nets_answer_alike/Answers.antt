use Rattle.sn_planned.proofs.Whole.{slim_is_alike}
use Rattle.sn_planned.proofs.laws.slim_nets_answer_alike.Goals as goal

pub returns : goal.returns
returns c = λ s input net formed safe xss each. slim_is_alike s input net formed safe xss each
