use Rattle.std.proofs.Common.{sym, ◌∙◌}
use Rattle.sn_streams.proofs.Passing.{passing-map}
use Rattle.sn_streams.proofs.laws.passing_items.Goals as goal

pub returns : goal.returns
returns g c = λ r s child xss yss. ((λ is. is ∙ passing-map r s xss), (λ is. is ∙ sym (passing-map r s xss)))
