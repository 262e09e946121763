use Rattle.std.proofs.Common.{sym}
use Rattle.sn_streams.proofs.Segmentwise.{at_each_place, from_each_place}
use Rattle.sn_streams.proofs.Shuffles.{shuffles-length}
use Rattle.sn_streams.proofs.laws.shuffles_by_segments.Goals as goal

pub returns : goal.returns
returns g c = λ yss streams. (
  (λ shuffles. ((λ k. sym (shuffles-length yss streams k shuffles)), at_each_place yss streams shuffles)),
  (λ parts. from_each_place yss streams parts.0 parts.1),
)
