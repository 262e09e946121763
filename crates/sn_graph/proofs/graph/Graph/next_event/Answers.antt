use Rattle.std.proofs.lemmas.Option.{IfSome_then}
use Rattle.sn_graph.specs.Graph.{seen}
use Rattle.sn_graph.proofs.Nexts.{no_finish}
use Rattle.sn_graph.proofs.graph.Graph.next_event.Goals as goal

pub returns-clause-no_answer : goal.returns-clause-no_answer
returns-clause-no_answer c = IfSome_then c.next_event.result c.next_event.ensures.some (no_finish (seen c.args.self.now))
