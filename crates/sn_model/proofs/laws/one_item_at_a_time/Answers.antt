use Rattle.std.proofs.Common.{refl}
use Rattle.sn_model.proofs.Lists.{one_list-rest, one-segment}
use Rattle.sn_model.proofs.laws.one_item_at_a_time.Goals as goal

pub returns-clause-start : goal.returns-clause-start
returns-clause-start c = one_list-rest

pub returns-clause-item : goal.returns-clause-item
returns-clause-item c = λ s net state x xs. refl

pub returns-clause-segments : goal.returns-clause-segments
returns-clause-segments c = one-segment
