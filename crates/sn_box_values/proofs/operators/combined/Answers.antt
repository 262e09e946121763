use Rattle.std.proofs.Common.{sym, subst}
use Rattle.sn_box_values.specs.Datum.{value_of}
use Rattle.sn_box_values.specs.Outcome.{GivesValue}
use Rattle.sn_box_values.proofs.Operated.{of_numbers}
use Rattle.sn_box_values.proofs.operators.combined.Goals as goal

-- src/operators.rt:91:1
pub returns-in_default : goal.returns-in_default
returns-in_default c =
    let same = of_numbers c.args.op (value_of c.args.left.now) (value_of c.args.right.now) c.in_default.not-Eq c.in_default.not-Ne in
    subst (λ wanted. GivesValue wanted c.computed.result) (sym same) c.computed.ensures
