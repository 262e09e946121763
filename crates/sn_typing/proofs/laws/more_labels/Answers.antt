use Rattle.sn_typing.proofs.MoreLabels.{more_labels}
use Rattle.sn_typing.proofs.laws.more_labels.Goals as goal

pub returns-clause-safe : goal.returns-clause-safe
returns-clause-safe c = λ net v w safe more. (more_labels net v w more safe).0

pub returns-clause-flows : goal.returns-clause-flows
returns-clause-flows c = λ net v w u safe more flow. (more_labels net v w more safe).1 u flow
