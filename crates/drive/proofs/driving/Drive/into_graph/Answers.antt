use Rattle.std.proofs.Common.{refl}
use Rattle.drive.proofs.Driven.{driven}
use Rattle.drive.proofs.driving.Drive.into_graph.Goals as goal

pub returns : goal.returns
returns c = driven c.args.self.run.value c.args.self.graph c.args.self.of c.args.self.allowed (c.if-not-at_rest.ensures.rest.0 refl) (c.if-not-at_rest.ensures.only refl) c.out-out.ensures.some
