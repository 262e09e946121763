use Rattle.std.proofs.Common.{sym, subst}
use Rattle.sn_flow.specs.declared.fault.FlowFault.{FlowFault}
use Rattle.sn_load.specs.Scope.{TellsRefusal}
use Rattle.sn_load.proofs.load.tell_fault.Goals as goal

pub returns-in-NoRoute : goal.returns-in-NoRoute
returns-in-NoRoute c = subst (λ (f : FlowFault). TellsRefusal c.args.names.now f c.tell_type.result) (sym c.in-NoRoute.is) c.tell_type.ensures

pub returns-in-BadOutput : goal.returns-in-BadOutput
returns-in-BadOutput c = subst (λ (f : FlowFault). TellsRefusal c.args.names.now f c.tell_type-in-BadOutput.result) (sym c.in-BadOutput.is) c.tell_type-in-BadOutput.ensures
