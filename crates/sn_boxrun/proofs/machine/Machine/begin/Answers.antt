use Rattle.std.proofs.Common.{sym, ap, subst}
use Rattle.sn_boxrun.specs.Machine.{Goes, under, variables_of}
use Rattle.sn_boxrun.proofs.Outcomes.{begun}
use Rattle.sn_boxrun.proofs.machine.Machine.begin.Goals as goal

-- src/machine.rt:195:5
pub returns-clause-goes : goal.returns-clause-goes
returns-clause-goes c =
    let m = c.args.self.now in
    subst (λ whole. Goes whole c.open.new.self c.open.result)
    (ap (under m) (sym (begun m.program.now c.args.e.now (variables_of m) m.emitted m.fuel c.if-self-eq0.false))) c.open.ensures.goes
