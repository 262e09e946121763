use Rattle.std.proofs.Common.{[], ◌∷◌, refl}
use Rattle.sn_streams.specs.OneByOne.{one_by_one, start}
use Rattle.sn_streams.proofs.Machines.{emitted-append}
use Rattle.sn_streams.proofs.OneByOne.{one_is_a_machine}
use Rattle.sn_streams.proofs.laws.one_item_at_a_time.Goals as goal

pub returns-clause-item : goal.returns-clause-item
returns-clause-item g c = λ t state x xs. refl

pub returns-clause-stream : goal.returns-clause-stream
returns-clause-stream g c = λ t xss. one_is_a_machine t xss

pub returns-clause-segment : goal.returns-clause-segment
returns-clause-segment g c = λ t xs. one_is_a_machine t (xs ∷ [])

pub returns-clause-later : goal.returns-clause-later
returns-clause-later g c = λ t xs ys. emitted-append (one_by_one t) (start t) xs ys
