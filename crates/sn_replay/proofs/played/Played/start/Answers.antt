use Rattle.std.proofs.Common.{refl, rules}
use Rattle.sn_replay.proofs.Onward.{started}
use Rattle.sn_replay.proofs.played.Played.start.Goals as goal

pub returns-clause-played : goal.returns-clause-played
returns-clause-played c = started c.args.run.now _ c.in_ok-graph.ensures.of c.in_ok-graph.ensures.view (λ call. search rules) c.new-2.ensures refl
