use Rattle.sn_outcomes.proofs.Sources.{same_source, text_once}
use Rattle.sn_outcomes.proofs.laws.source_is_read_once.Goals as goal

pub returns-clause-one_program : goal.returns-clause-one_program
returns-clause-one_program c = same_source

pub returns-clause-one_outcome : goal.returns-clause-one_outcome
returns-clause-one_outcome c = text_once
