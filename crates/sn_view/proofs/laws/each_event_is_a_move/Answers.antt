use Rattle.sn_view.proofs.Whole.{one-move-each, sane-kept}
use Rattle.sn_view.proofs.laws.each_event_is_a_move.Goals as goal

pub returns-clause-moves : goal.returns-clause-moves
returns-clause-moves c = λ v e k s may. one-move-each v e k s may

pub returns-clause-sane : goal.returns-clause-sane
returns-clause-sane c = λ v e k s may. sane-kept v e k s may
