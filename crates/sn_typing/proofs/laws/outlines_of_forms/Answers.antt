use Rattle.sn_typing.proofs.Forms.{outline-Box, outline-Filter, outline-Sync, outline-Serial, outline-Choice, outline-Star, outline-Split}
use Rattle.sn_typing.proofs.laws.outlines_of_forms.Goals as goal

pub returns-clause-of_box : goal.returns-clause-of_box
returns-clause-of_box c = outline-Box

pub returns-clause-of_filter : goal.returns-clause-of_filter
returns-clause-of_filter c = outline-Filter

pub returns-clause-of_sync : goal.returns-clause-of_sync
returns-clause-of_sync c = outline-Sync

pub returns-clause-of_serial : goal.returns-clause-of_serial
returns-clause-of_serial c = outline-Serial

pub returns-clause-of_choice : goal.returns-clause-of_choice
returns-clause-of_choice c = outline-Choice

pub returns-clause-of_star : goal.returns-clause-of_star
returns-clause-of_star c = outline-Star

pub returns-clause-of_split : goal.returns-clause-of_split
returns-clause-of_split c = outline-Split
