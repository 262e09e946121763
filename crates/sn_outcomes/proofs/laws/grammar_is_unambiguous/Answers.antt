use Rattle.sn_outcomes.proofs.Programs.{same_decls}
use Rattle.sn_outcomes.proofs.laws.grammar_is_unambiguous.Goals as goal

pub returns : goal.returns
returns c = record { one_list = same_decls }
