use Rattle.sn_types.proofs.Unbound.{matches_unbound, score_unbound, subtype_unbound}
use Rattle.sn_types.proofs.laws.without_binding_tags.Goals as goal

pub returns-clause-matching : goal.returns-clause-matching
returns-clause-matching c = matches_unbound

pub returns-clause-scores : goal.returns-clause-scores
returns-clause-scores c = score_unbound

pub returns-clause-subtypes : goal.returns-clause-subtypes
returns-clause-subtypes c = subtype_unbound
