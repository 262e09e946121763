use Rattle.std.proofs.Common.{refl}
use Rattle.sn_streams.proofs.Example.{overtakes, not_across_borders, not_in_turn}
use Rattle.sn_streams.proofs.laws.two_branches.Goals as goal

pub returns-clause-overtakes : goal.returns-clause-overtakes
returns-clause-overtakes c = overtakes

pub returns-clause-border : goal.returns-clause-border
returns-clause-border c = not_across_borders

pub returns-clause-in_turn : goal.returns-clause-in_turn
returns-clause-in_turn c = refl

pub returns-clause-deterministic : goal.returns-clause-deterministic
returns-clause-deterministic c = not_in_turn
