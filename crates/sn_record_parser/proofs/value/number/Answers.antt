use Rattle.std.proofs.Common.{arith, rules}
use Rattle.std.specs.Prelude.{FitsSigned}
use Rattle.std.specs.Int.{w64}
use Rattle.std.proofs.lemmas.Int.{to_z-of_z}
use Rattle.sn_record_parser.proofs.Values.{number_has}
use Rattle.sn_record_parser.proofs.value.number.Goals as goal

pub returns : goal.returns
returns c =
    let fits : FitsSigned w64 c.args.n = search rules in
    rw (to_z-of_z w64 c.args.n fits) (λ levels rest. number_has c.args.n rest (omega arith))
