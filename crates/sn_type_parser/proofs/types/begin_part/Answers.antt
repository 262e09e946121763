use Rattle.std.proofs.Common.{refl}
use Rattle.sn_type_parser.proofs.TypeSteps.{name_step, no_part}
use Rattle.sn_type_parser.proofs.types.begin_part.Goals as goal

pub returns-in_ok-parser-in-Name : goal.returns-in_ok-parser-in-Name
returns-in_ok-parser-in-Name c =
    let a = c.args in
    λ w t. rw c.in_ok-parser-in-Name.ensures (name_step a.parts _ a.token c.in-Name.name c.in-Name.is refl w t)

pub returns-in_default : goal.returns-in_default
returns-in_default c = no_part c.args.parts c.args.token c.in_default.not-Name c.in_default.not-Symbol
