use Rattle.std.proofs.Common.{refl}
use Rattle.sn_view.proofs.Came.{may_begins, may_some}
use Rattle.sn_graph.specs.Graph.{seen}
use Rattle.sn_graph.proofs.graph.Graph.emitted.Goals as goal

pub returns : goal.returns
returns c =
    let graph = c.args.self.now in
    record {
      items = refl;
      begins = λ ys can. may_begins (seen graph) ys can;
      some = may_some graph.arena.run.value (seen graph) graph.came graph.arena.run.value.formed;
    }
