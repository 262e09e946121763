use Rattle.sn_event_lines.proofs.Leading.{same_next}
use Rattle.sn_event_lines.proofs.laws.lines_lead_to_one_graph.Goals as goal

pub returns : goal.returns
returns c = same_next
