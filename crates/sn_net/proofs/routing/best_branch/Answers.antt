use Rattle.std.proofs.Common.{drop, arith}
use Rattle.std.proofs.lemmas.List.{drop_all}
use Rattle.sn_net.proofs.BestBranches.{last_best}
use Rattle.sn_net.proofs.routing.best_branch.Goals as goal

pub returns-in-Some : goal.returns-in-Some
returns-in-Some c =
    last_best c.loop-i.best _ c.args.faces.now (drop c.loop-i.i c.args.faces.now) c.loop-i.i c.args.r.now (drop_all c.loop-i.i c.args.faces.now (omega (arith, c.loop-i-test.false))) c.loop-i.invariant c.in-Some.is

pub returns-in-None : goal.returns-in-None
returns-in-None c =
    last_best c.loop-i.best _ c.args.faces.now (drop c.loop-i.i c.args.faces.now) c.loop-i.i c.args.r.now (drop_all c.loop-i.i c.args.faces.now (omega (arith, c.loop-i-test.false))) c.loop-i.invariant c.in-None.is
