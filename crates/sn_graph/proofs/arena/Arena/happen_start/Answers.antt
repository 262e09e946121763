use Rattle.std.proofs.Common.{refl, arith}
use Rattle.sn_view.proofs.Came.{came_below, came_calls}
use Rattle.sn_view.proofs.Counted.{some-place}
use Rattle.sn_graph.specs.Arena.{view_of}
use Rattle.sn_graph.proofs.CameHere.{came_boxes_fed}
use Rattle.sn_graph.proofs.Tabling.{tabled_same}
use Rattle.sn_graph.proofs.arena.Arena.happen_start.Goals as goal

pub start_call-requires-clause-few : goal.start_call-requires-clause-few
start_call-requires-clause-few c =
    let le = came_calls c.args.run.now (view_of c.args.self.now) c.requires.came in
    let few = c.requires.few in
    omega (arith, le, few)

pub start_call-requires-clause-below : goal.start_call-requires-clause-below
start_call-requires-clause-below c = λ i call given flies.
    let at = some-place (view_of c.args.self.now) i call given flies in
    came_below c.args.run.now (view_of c.args.self.now) c.requires.came i at.0 call given at.1

pub start_call-requires-clause-fed : goal.start_call-requires-clause-fed
start_call-requires-clause-fed c = came_boxes_fed c.args.run.now c.args.self.now c.requires.came

pub returns-in-Ok-Some-clause-tabled : goal.returns-in-Ok-Some-clause-tabled
returns-in-Ok-Some-clause-tabled c = tabled_same c.start_call.new.self _ refl refl c.start_call.ensures.tabled
