use Rattle.std.proofs.Common.{arith, refl, rules}
use Rattle.std.proofs.lemmas.Result.{IfOk-from_err}
use Rattle.sn_node.specs.Local.{given_of}
use Rattle.sn_graph.proofs.Changes.{on_err}
use Rattle.sn_graph.proofs.Locals.{counts_there, gives_there, none_there, nothing_there, route_there, run_there}
use Rattle.sn_graph.proofs.arena.Arena.local.Goals as goal

pub returns-then-i-len-clause-enabled : goal.returns-then-i-len-clause-enabled
returns-then-i-len-clause-enabled c = none_there c.args.self.now c.args.i (search (rules, arith))

pub returns-then-i-len-clause-after : goal.returns-then-i-len-clause-after
returns-then-i-len-clause-after c = refl

pub returns-then-i-len-clause-err : goal.returns-then-i-len-clause-err
returns-then-i-len-clause-err c = tt

pub returns-then-i-len-clause-of : goal.returns-then-i-len-clause-of
returns-then-i-len-clause-of c = c.requires.of

pub returns-then-i-len-clause-quiet : goal.returns-then-i-len-clause-quiet
returns-then-i-len-clause-quiet c = record { places = refl; agenda = refl }

pub passing-requires-clause-of : goal.passing-requires-clause-of
passing-requires-clause-of c = run_there c.args.self.now c.args.i c.index.result.now (search (rules, arith)) c.index.ensures c.args.run.now c.requires.of

pub passing-requires-clause-routed : goal.passing-requires-clause-routed
passing-requires-clause-routed c = route_there c.args.self.now c.args.i c.index.result.now (search (rules, arith)) c.index.ensures c.args.run.now c.requires.of c.requires.routed

pub returns-in_err-passing-clause-enabled : goal.returns-in_err-passing-clause-enabled
returns-in_err-passing-clause-enabled c = IfOk-from_err c.from_residual.result _ c.from_residual.ensures.0

pub returns-in_err-passing-clause-after : goal.returns-in_err-passing-clause-after
returns-in_err-passing-clause-after c = IfOk-from_err c.from_residual.result _ c.from_residual.ensures.0

pub returns-in_err-passing-clause-err : goal.returns-in_err-passing-clause-err
returns-in_err-passing-clause-err c = on_err c.from_residual.result refl

pub returns-in_err-passing-clause-of : goal.returns-in_err-passing-clause-of
returns-in_err-passing-clause-of c = c.requires.of

pub returns-in_err-passing-clause-quiet : goal.returns-in_err-passing-clause-quiet
returns-in_err-passing-clause-quiet c = record { places = refl; agenda = refl }

pub local_given-requires-clause-within : goal.local_given-requires-clause-within
local_given-requires-clause-within c = search (rules, arith)

pub local_given-requires-clause-gives : goal.local_given-requires-clause-gives
local_given-requires-clause-gives c = gives_there c.args.self.now c.args.i c.index.result.now (search (rules, arith)) c.index.ensures c.args.run.now c.requires.of (given_of c.in-Given.given) (rw c.in-Given.is at c.in_ok-passing.ensures)

pub local_given-requires-clause-apart : goal.local_given-requires-clause-apart
local_given-requires-clause-apart c = c.requires.apart

pub local_counted-requires-clause-within : goal.local_counted-requires-clause-within
local_counted-requires-clause-within c = search (rules, arith)

pub local_counted-requires-clause-of : goal.local_counted-requires-clause-of
local_counted-requires-clause-of c = c.requires.of

pub local_counted-requires-clause-routed : goal.local_counted-requires-clause-routed
local_counted-requires-clause-routed c = c.requires.routed

pub local_counted-requires-clause-counts : goal.local_counted-requires-clause-counts
local_counted-requires-clause-counts c = counts_there c.args.self.now c.args.i c.index.result.now (search (rules, arith)) c.index.ensures c.args.run.now c.requires.of c.in-Count.most (rw c.in-Count.is at c.in_ok-passing.ensures)

pub local_counted-requires-clause-apart : goal.local_counted-requires-clause-apart
local_counted-requires-clause-apart c = c.requires.apart

pub returns-in-Nothing-clause-enabled : goal.returns-in-Nothing-clause-enabled
returns-in-Nothing-clause-enabled c = nothing_there c.args.self.now c.args.i c.index.result.now (search (rules, arith)) c.index.ensures c.args.run.now c.requires.of (rw c.in-Nothing.is at c.in_ok-passing.ensures)

pub returns-in-Nothing-clause-after : goal.returns-in-Nothing-clause-after
returns-in-Nothing-clause-after c = refl

pub returns-in-Nothing-clause-err : goal.returns-in-Nothing-clause-err
returns-in-Nothing-clause-err c = tt

pub returns-in-Nothing-clause-of : goal.returns-in-Nothing-clause-of
returns-in-Nothing-clause-of c = c.requires.of

pub returns-in-Nothing-clause-quiet : goal.returns-in-Nothing-clause-quiet
returns-in-Nothing-clause-quiet c = record { places = refl; agenda = refl }

pub returns-in-Given-clause-enabled : goal.returns-in-Given-clause-enabled
returns-in-Given-clause-enabled c = c.local_given.ensures.enabled

pub returns-in-Given-clause-after : goal.returns-in-Given-clause-after
returns-in-Given-clause-after c = c.local_given.ensures.after

pub returns-in-Given-clause-err : goal.returns-in-Given-clause-err
returns-in-Given-clause-err c = c.local_given.ensures.err

pub returns-in-Given-clause-of : goal.returns-in-Given-clause-of
returns-in-Given-clause-of c = c.local_given.ensures.of c.args.run.now c.requires.of

pub returns-in-Given-clause-quiet : goal.returns-in-Given-clause-quiet
returns-in-Given-clause-quiet c = c.local_given.ensures.quiet

pub returns-in-Count-clause-enabled : goal.returns-in-Count-clause-enabled
returns-in-Count-clause-enabled c = c.local_counted.ensures.enabled

pub returns-in-Count-clause-after : goal.returns-in-Count-clause-after
returns-in-Count-clause-after c = c.local_counted.ensures.after

pub returns-in-Count-clause-err : goal.returns-in-Count-clause-err
returns-in-Count-clause-err c = c.local_counted.ensures.err

pub returns-in-Count-clause-of : goal.returns-in-Count-clause-of
returns-in-Count-clause-of c = c.local_counted.ensures.of

pub returns-in-Count-clause-quiet : goal.returns-in-Count-clause-quiet
returns-in-Count-clause-quiet c = c.local_counted.ensures.quiet
