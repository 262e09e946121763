use Rattle.std.proofs.Common.{ap, rules, ◌∙◌}
use Rattle.std.proofs.lemmas.Int.{to_z-of_z}
use Rattle.std.specs.Int.{w64}
use Rattle.std.specs.Prelude.{FitsSigned, Option, unwrap_or}
use Rattle.std.specs.Option.{option_map}
use Rattle.sn_pass.specs.Keeping.{Fresh}
use Rattle.sn_pass.specs.States.{held}
use Rattle.sn_pass.specs.declared.kept.Kept.{Kept}
use Rattle.sn_pass.proofs.States.{held-Fresh}
use Rattle.sn_pass.proofs.kept.take_replica.Goals as goal

pub returns-in-Some-clause-taken : goal.returns-in-Some-clause-taken
returns-in-Some-clause-taken c = ap (λ (o : Option Kept). unwrap_or (option_map held o) Fresh) (let fits : FitsSigned w64 c.args.n = search rules in rw (to_z-of_z w64 c.args.n fits) at c.in-Some.ensures.value)

pub returns-in-Some-clause-gone : goal.returns-in-Some-clause-gone
returns-in-Some-clause-gone c = ap (λ (o : Option Kept). unwrap_or (option_map held o) Fresh) (let fits : FitsSigned w64 c.args.n = search rules in rw (to_z-of_z w64 c.args.n fits) at c.remove.ensures.updates.1)

pub returns-in-None-clause-taken : goal.returns-in-None-clause-taken
returns-in-None-clause-taken c = held-Fresh ∙ ap (λ (o : Option Kept). unwrap_or (option_map held o) Fresh) (let fits : FitsSigned w64 c.args.n = search rules in rw (to_z-of_z w64 c.args.n fits) at c.in-None.ensures.value)

pub returns-in-None-clause-gone : goal.returns-in-None-clause-gone
returns-in-None-clause-gone c = ap (λ (o : Option Kept). unwrap_or (option_map held o) Fresh) (let fits : FitsSigned w64 c.args.n = search rules in rw (to_z-of_z w64 c.args.n fits) at c.remove.ensures.updates.1)
