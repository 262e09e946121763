use Rattle.std.proofs.Common.{◌≡◌, sym, ◌∙◌}
use Rattle.sn_flow.specs.declared.fault.FlowFault.TheVariants.{Memory, NoRoute, TooManyVariants}
use Rattle.sn_load.proofs.Flowing.{never_refused}
use Rattle.sn_load.proofs.types.flow_of.Goals as goal

pub unreachable-requires : goal.unreachable-requires
unreachable-requires c =
    let none : NoRoute c.in-Err-NoRoute.field-0-0 c.in-Err-NoRoute.field-0-1 ≡ Memory =
    sym c.in-Err-NoRoute.field-0-is ∙ never_refused c.args.program.now c.args.variant.now c.requires.accepted c.requires.listed c.in-Err-NoRoute.field-0 c.in-Err-NoRoute.ensures in
    absurd cc

pub unreachable-requires-in-Err-TooManyVariants : goal.unreachable-requires-in-Err-TooManyVariants
unreachable-requires-in-Err-TooManyVariants c =
    let none : TooManyVariants c.in-Err-TooManyVariants.field-0-0 ≡ Memory =
    sym c.in-Err-TooManyVariants.field-0-is ∙ never_refused c.args.program.now c.args.variant.now c.requires.accepted c.requires.listed c.in-Err-TooManyVariants.field-0 c.in-Err-TooManyVariants.ensures in
    absurd cc
