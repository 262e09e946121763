use Rattle.sn_view.proofs.Counted.{calls-counted, marks-counted}
use Rattle.sn_view.proofs.laws.events_are_counted.Goals as goal

pub returns : goal.returns
returns c = record {
  calls = λ run g comes. calls-counted run g comes;
  marks = λ run g i n e comes there st. marks-counted run g comes i n e there st;
}
