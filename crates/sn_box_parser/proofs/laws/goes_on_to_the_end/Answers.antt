use Rattle.sn_box_parser.proofs.BoxDeclLaws.{no_end, completable}
use Rattle.sn_box_parser.proofs.laws.goes_on_to_the_end.Goals as goal

pub returns-clause-never_at_end : goal.returns-clause-never_at_end
returns-clause-never_at_end c = no_end

pub returns-clause-completable : goal.returns-clause-completable
returns-clause-completable c = completable
