use Rattle.std.proofs.Common.{sym, ap, ◌∙◌, map, [], ◌∷◌, ◌++◌}
use Rattle.std.proofs.lemmas.List.{map-append}
use Rattle.sn_view.specs.View.{InTurn}
use Rattle.sn_node.specs.Seen.{decision_of, state_of}
use Rattle.sn_node.proofs.Deciding.{last_seen, same_turns}
use Rattle.sn_node.proofs.turns.set_last.Goals as goal

pub returns-in-InTurn-clause-decision : goal.returns-in-InTurn-clause-decision
returns-in-InTurn-clause-decision c = λ before x is.
    let was = last_seen decision_of c.in-InTurn.fork before x (same_turns (map decision_of c.in-InTurn.fork) (before ++ x ∷ []) (sym (ap state_of c.in-InTurn.is) ∙ is)) in
    ap InTurn
    (ap (map decision_of) (c.set_last.ensures.last was.0 was.1 was.2)
    ∙ map-append decision_of was.0 (c.args.d ∷ []) ∙ ap (λ ds. ds ++ decision_of c.args.d ∷ []) was.3)
