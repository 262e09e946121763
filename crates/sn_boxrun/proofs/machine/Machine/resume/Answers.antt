use Rattle.std.proofs.Common.{sym, ap, ◌∙◌}
use Rattle.std.proofs.lemmas.List.{take-map}
use Rattle.sn_box_values.specs.Datum.{value_of, values_of}
use Rattle.sn_boxrun.specs.Machine.{progress_of, resumed}
use Rattle.sn_boxrun.proofs.machine.Machine.resume.Goals as goal

-- src/machine.rt:211:5
pub returns-in-LetEnd-clause-goes : goal.returns-in-LetEnd-clause-goes
returns-in-LetEnd-clause-goes c =
    let m = c.args.self.now in
    rw c.in-LetEnd.is (ap (λ variables. resumed m.program.now m.frames variables (value_of c.args.value) (progress_of m)) (ap values_of c.truncate.ensures.items ∙ sym (take-map value_of c.in-LetEnd.count m.variables.items)))
