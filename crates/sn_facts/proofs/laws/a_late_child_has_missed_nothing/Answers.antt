use Rattle.sn_facts.proofs.Forking.{late-child}
use Rattle.sn_facts.proofs.laws.a_late_child_has_missed_nothing.Goals as goal

pub returns : goal.returns
returns g c = λ t xs steps merge r child xss k received waiting at comes none.
    late-child t xs steps merge r child xss at k received waiting comes none
