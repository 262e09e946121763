use Rattle.std.proofs.Common.{sym, ◌∙◌}
use Rattle.sn_model.proofs.Lists.{transduced-alone}
use Rattle.sn_model.proofs.laws.each_item_is_answered.Goals as goal

pub returns : goal.returns
returns c = λ answer xss yss. ((λ is. is ∙ transduced-alone answer xss), (λ is. is ∙ sym (transduced-alone answer xss)))
