use Rattle.sn_flow.specs.Spots.{spot}
use Rattle.sn_flow.proofs.Walking.{better_none, better_some}
use Rattle.sn_flow.proofs.spots.is_better.Goals as goal

pub returns-in-Some : goal.returns-in-Some
returns-in-Some c = better_some c.args.best.now c.in-Some.other (spot c.args.place c.args.variant.now) c.is_sooner.result c.in-Some.is c.is_sooner.ensures

pub returns-in-None : goal.returns-in-None
returns-in-None c = better_none c.args.best.now (spot c.args.place c.args.variant.now) c.in-None.is
