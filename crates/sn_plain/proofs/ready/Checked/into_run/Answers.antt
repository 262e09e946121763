use Rattle.std.proofs.Common.{sym, subst}
use Rattle.sn_load.specs.Load.{AreTypedRecords}
use Rattle.sn_plain.specs.Ready.{RunsAs, ready_of}
use Rattle.sn_plain.specs.declared.ready.Ready.{Ready}
use Rattle.sn_plain.proofs.ready.Checked.into_run.Goals as goal

pub returns-clause-typed : goal.returns-clause-typed
returns-clause-typed c = subst (λ (ready : Ready). AreTypedRecords ready.boxes ready.net ready.records) (sym c.into_ready.ensures) c.requires.typed

pub returns-clause-alike : goal.returns-clause-alike
returns-clause-alike c = subst (λ (ready : Ready). RunsAs (ready_of c.args.self) ready) (sym c.into_ready.ensures) (λ limits p shown. shown)
