use Rattle.sn_view.proofs.Came.{came_keys}
use Rattle.sn_graph.specs.Arena.{view_of}
use Rattle.sn_graph.proofs.arena.Arena.event_at.Goals as goal

pub child_to_merge-requires : goal.child_to_merge-requires
child_to_merge-requires c = λ n there. came_keys c.args.run.now (view_of c.args.self.now) c.requires.came c.args.run.now.formed c.args.i n there
