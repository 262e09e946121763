use Rattle.sn_view.proofs.Ordering.{orderly-start, orderly-kept}
use Rattle.sn_view.proofs.laws.stays_orderly.Goals as goal

pub returns-clause-start : goal.returns-clause-start
returns-clause-start c = λ run. orderly-start run

pub returns-clause-kept : goal.returns-clause-kept
returns-clause-kept c = λ v e k o s may. orderly-kept v e k o s may
