use Rattle.sn_pass.specs.declared.kept.Kept.TheVariants as Kept
use Rattle.sn_pass.proofs.States.{held-Fresh}
use Rattle.sn_once.proofs.Feeding.{begins, begins_routed}
use Rattle.sn_once.proofs.once.Once.new.Goals as goal

pub invariant_of-result-clause-routed : goal.invariant_of-result-clause-routed
invariant_of-result-clause-routed c = begins_routed c.of.result.value c.args.run.now Kept.Fresh c.of.ensures held-Fresh c.args.run.now.formed

pub returns-clause-rest : goal.returns-clause-rest
returns-clause-rest c = begins c.of.result.value c.args.run.now Kept.Fresh c.of.ensures held-Fresh
