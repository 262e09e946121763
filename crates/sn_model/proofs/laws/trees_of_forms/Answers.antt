use Rattle.sn_model.proofs.Forms.{tree-Box, tree-Filter, tree-Sync, tree-Serial, tree-Choice, tree-Star, tree-Split}
use Rattle.sn_model.proofs.laws.trees_of_forms.Goals as goal

pub returns-clause-of_box : goal.returns-clause-of_box
returns-clause-of_box c = tree-Box

pub returns-clause-of_filter : goal.returns-clause-of_filter
returns-clause-of_filter c = tree-Filter

pub returns-clause-of_sync : goal.returns-clause-of_sync
returns-clause-of_sync c = tree-Sync

pub returns-clause-of_serial : goal.returns-clause-of_serial
returns-clause-of_serial c = tree-Serial

pub returns-clause-of_choice : goal.returns-clause-of_choice
returns-clause-of_choice c = tree-Choice

pub returns-clause-of_star : goal.returns-clause-of_star
returns-clause-of_star c = tree-Star

pub returns-clause-of_split : goal.returns-clause-of_split
returns-clause-of_split c = tree-Split
