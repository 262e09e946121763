use Rattle.std.proofs.Common.{sym, subst}
use Rattle.sn_load.specs.Load.{AreTypedRecords}
use Rattle.sn_plain.specs.declared.ready.Ready.{Ready}
use Rattle.sn_plain.proofs.ready.prepare.Goals as goal

pub returns-clause-typed : goal.returns-clause-typed
returns-clause-typed g c = subst (λ (ready : Ready). AreTypedRecords ready.boxes ready.net ready.records) (sym c.into_ready.ensures) c.in_ok-checked.ensures.typed
