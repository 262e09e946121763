use Rattle.sn_view.proofs.Came.{may_allowed, may_before, may_begins, may_rest, may_some, start_may}
use Rattle.sn_view.proofs.laws.a_graph_that_came.Goals as goal

pub returns-clause-start : goal.returns-clause-start
returns-clause-start c = λ run ys. start_may run ys

pub returns-clause-before : goal.returns-clause-before
returns-clause-before c = λ run g e ys fits came enabled may. may_before run g came fits e ys enabled may

pub returns-clause-begins : goal.returns-clause-begins
returns-clause-begins c = λ g ys may. may_begins g ys may

pub returns-clause-some : goal.returns-clause-some
returns-clause-some c = λ run g fits came. may_some run g came fits

pub returns-clause-rest : goal.returns-clause-rest
returns-clause-rest c = λ run g ys fits came rest may. may_rest run g came fits ys rest may

pub returns-clause-allowed : goal.returns-clause-allowed
returns-clause-allowed c = λ run g ys fits came may. may_allowed run g came fits ys may
