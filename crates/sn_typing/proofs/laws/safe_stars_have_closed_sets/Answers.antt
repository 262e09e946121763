use Rattle.sn_typing.proofs.Listing.{safe_closed_set}
use Rattle.sn_typing.proofs.laws.safe_stars_have_closed_sets.Goals as goal

pub returns : goal.returns
returns c = λ exit guarded body v safe. safe_closed_set exit guarded body v safe
