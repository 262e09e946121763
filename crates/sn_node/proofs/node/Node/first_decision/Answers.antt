use Rattle.std.proofs.Common.{sym, ap, ◌∙◌}
use Rattle.std.specs.Option.{option_map}
use Rattle.sn_node.specs.Seen.{decision_of, state_of}
use Rattle.sn_node.specs.States.{first_turn}
use Rattle.sn_node.proofs.Served.{first_seen, twice}
use Rattle.sn_node.proofs.node.Node.first_decision.Goals as goal

pub returns-in-InTurn : goal.returns-in-InTurn
returns-in-InTurn c =
    twice (λ d. d.now) decision_of c.first.result ∙ ap (option_map decision_of) c.first.ensures ∙ first_seen c.in-InTurn.fork
    ∙ sym (ap (λ s. first_turn (state_of s)) c.in-InTurn.is)
