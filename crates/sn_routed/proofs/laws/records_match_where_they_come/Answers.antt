use Rattle.sn_routed.proofs.Coming.{box_matches, cell_matches, filter_matches}
use Rattle.sn_routed.proofs.laws.records_match_where_they_come.Goals as goal

pub returns-clause-of_box : goal.returns-clause-of_box
returns-clause-of_box c = box_matches

pub returns-clause-of_filter : goal.returns-clause-of_filter
returns-clause-of_filter c = filter_matches

pub returns-clause-of_cell : goal.returns-clause-of_cell
returns-clause-of_cell c = cell_matches
