use Rattle.sn_typing.proofs.Routes.{closed_set_safe}
use Rattle.sn_typing.proofs.laws.closed_sets_make_safe.Goals as goal

pub returns : goal.returns
returns c = λ exit guarded body v members set. closed_set_safe exit guarded body v members set
