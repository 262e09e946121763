use Rattle.std.proofs.Common.{refl}
use Rattle.sn_view.proofs.Came.{came_once}
use Rattle.sn_graph.specs.Arena.{view_of}
use Rattle.sn_graph.proofs.Tabling.{tabled_same}
use Rattle.sn_graph.proofs.arena.Arena.happen_finish.Goals as goal

pub finish-requires-clause-once : goal.finish-requires-clause-once
finish-requires-clause-once c = λ i p j q call given other here there. came_once c.args.run.now (view_of c.args.self.now) c.requires.came i p j q call given other here there

pub returns-clause-tabled : goal.returns-clause-tabled
returns-clause-tabled c = tabled_same c.finish.new.self _ refl refl c.finish.ensures.tabled
