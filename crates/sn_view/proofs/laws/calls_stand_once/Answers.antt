use Rattle.sn_view.proofs.Counted.{calls-once}
use Rattle.sn_view.proofs.laws.calls_stand_once.Goals as goal

pub returns : goal.returns
returns c = record {
  below = λ run g i p call given comes. (calls-once run g comes).below i p call given;
  once = λ run g i p j q call given other comes. (calls-once run g comes).once i p j q call given other;
}
