use Rattle.std.proofs.Common.{◌≡◌, arith, ap, refl, rules, true}
use Rattle.sn_view.specs.Next.{is_fork}
use Rattle.sn_node.specs.Seen.{state_of}
use Rattle.sn_node.specs.States.{is_freely, is_in_turn}
use Rattle.sn_graph.proofs.Here.{holds_here, no_route_here, no_route_past}
use Rattle.sn_graph.proofs.arena.Arena.route.Goals as goal

pub returns-then-i-len-clause-enabled : goal.returns-then-i-len-clause-enabled
returns-then-i-len-clause-enabled c = no_route_past c.args.self.now c.args.i (search (rules, arith))

pub returns-then-i-len-clause-after : goal.returns-then-i-len-clause-after
returns-then-i-len-clause-after c = refl

pub returns-then-i-len-clause-err : goal.returns-then-i-len-clause-err
returns-then-i-len-clause-err c = tt

pub returns-then-i-len-clause-of : goal.returns-then-i-len-clause-of
returns-then-i-len-clause-of c = c.requires.of

pub returns-then-i-len-clause-quiet : goal.returns-then-i-len-clause-quiet
returns-then-i-len-clause-quiet c = record { places = refl; agenda = refl }

pub route_freely-requires-clause-of : goal.route_freely-requires-clause-of
route_freely-requires-clause-of c = c.requires.of

pub route_freely-requires-clause-free : goal.route_freely-requires-clause-free
route_freely-requires-clause-free c = holds_here (λ n. is_freely n.state ≡ true) c.args.self.now c.args.i c.index.result.now (search (rules, arith)) c.index.ensures (ap (λ s. is_freely (state_of s)) c.in-Freely.is)

pub route_freely-requires-clause-few : goal.route_freely-requires-clause-few
route_freely-requires-clause-few c = c.requires.few

pub route_freely-requires-clause-routed : goal.route_freely-requires-clause-routed
route_freely-requires-clause-routed c = c.requires.routed

pub route_freely-requires-clause-own : goal.route_freely-requires-clause-own
route_freely-requires-clause-own c = c.requires.own

pub route_freely-requires-clause-doors : goal.route_freely-requires-clause-doors
route_freely-requires-clause-doors c = c.requires.doors

pub returns-in-Freely-clause-enabled : goal.returns-in-Freely-clause-enabled
returns-in-Freely-clause-enabled c = c.route_freely.ensures.enabled

pub returns-in-Freely-clause-after : goal.returns-in-Freely-clause-after
returns-in-Freely-clause-after c = c.route_freely.ensures.after

pub returns-in-Freely-clause-err : goal.returns-in-Freely-clause-err
returns-in-Freely-clause-err c = c.route_freely.ensures.err

pub returns-in-Freely-clause-of : goal.returns-in-Freely-clause-of
returns-in-Freely-clause-of c = c.route_freely.ensures.of

pub returns-in-Freely-clause-quiet : goal.returns-in-Freely-clause-quiet
returns-in-Freely-clause-quiet c = c.route_freely.ensures.quiet

pub route_in_turn-requires-clause-of : goal.route_in_turn-requires-clause-of
route_in_turn-requires-clause-of c = c.requires.of

pub route_in_turn-requires-clause-in_turn : goal.route_in_turn-requires-clause-in_turn
route_in_turn-requires-clause-in_turn c = holds_here (λ n. is_in_turn n.state ≡ true) c.args.self.now c.args.i c.index.result.now (search (rules, arith)) c.index.ensures (ap (λ s. is_in_turn (state_of s)) c.in-InTurn.is)

pub route_in_turn-requires-clause-routed : goal.route_in_turn-requires-clause-routed
route_in_turn-requires-clause-routed c = c.requires.routed

pub route_in_turn-requires-clause-own : goal.route_in_turn-requires-clause-own
route_in_turn-requires-clause-own c = c.requires.own

pub route_in_turn-requires-clause-doors : goal.route_in_turn-requires-clause-doors
route_in_turn-requires-clause-doors c = c.requires.doors

pub returns-in-InTurn-clause-enabled : goal.returns-in-InTurn-clause-enabled
returns-in-InTurn-clause-enabled c = c.route_in_turn.ensures.enabled

pub returns-in-InTurn-clause-after : goal.returns-in-InTurn-clause-after
returns-in-InTurn-clause-after c = c.route_in_turn.ensures.after

pub returns-in-InTurn-clause-err : goal.returns-in-InTurn-clause-err
returns-in-InTurn-clause-err c = c.route_in_turn.ensures.err

pub returns-in-InTurn-clause-of : goal.returns-in-InTurn-clause-of
returns-in-InTurn-clause-of c = c.route_in_turn.ensures.of

pub returns-in-InTurn-clause-quiet : goal.returns-in-InTurn-clause-quiet
returns-in-InTurn-clause-quiet c = c.route_in_turn.ensures.quiet

pub returns-in-Alone-clause-enabled : goal.returns-in-Alone-clause-enabled
returns-in-Alone-clause-enabled c = no_route_here c.args.self.now c.args.i c.index.result.now (search (rules, arith)) c.index.ensures (ap (λ s. is_fork (state_of s)) c.in-Alone.is)

pub returns-in-Alone-clause-after : goal.returns-in-Alone-clause-after
returns-in-Alone-clause-after c = refl

pub returns-in-Alone-clause-err : goal.returns-in-Alone-clause-err
returns-in-Alone-clause-err c = tt

pub returns-in-Alone-clause-of : goal.returns-in-Alone-clause-of
returns-in-Alone-clause-of c = c.requires.of

pub returns-in-Alone-clause-quiet : goal.returns-in-Alone-clause-quiet
returns-in-Alone-clause-quiet c = record { places = refl; agenda = refl }

pub returns-in-Cell-clause-enabled : goal.returns-in-Cell-clause-enabled
returns-in-Cell-clause-enabled c = no_route_here c.args.self.now c.args.i c.index.result.now (search (rules, arith)) c.index.ensures (ap (λ s. is_fork (state_of s)) c.in-Cell.is)

pub returns-in-Cell-clause-after : goal.returns-in-Cell-clause-after
returns-in-Cell-clause-after c = refl

pub returns-in-Cell-clause-err : goal.returns-in-Cell-clause-err
returns-in-Cell-clause-err c = tt

pub returns-in-Cell-clause-of : goal.returns-in-Cell-clause-of
returns-in-Cell-clause-of c = c.requires.of

pub returns-in-Cell-clause-quiet : goal.returns-in-Cell-clause-quiet
returns-in-Cell-clause-quiet c = record { places = refl; agenda = refl }
