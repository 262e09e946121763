use Rattle.sn_view.proofs.Routed.{records_fit}
use Rattle.sn_view.proofs.laws.records_fit_their_boxes.Goals as goal

pub returns : goal.returns
returns c = record {
  within = λ run g i p place number n r formed typed comes there is_box waits. (records_fit run formed typed g comes i n there p place number r is_box waits).0;
  matches = λ run g i p place number n r formed typed comes there is_box waits. (records_fit run formed typed g comes i n there p place number r is_box waits).1;
}
