use Rattle.std.proofs.Common.{take}
use Rattle.sn_load.specs.Flows.{HasFlows}
use Rattle.sn_load.proofs.types.flows_text.Given as goal

abbrev pub invariant-loop-variant : goal.invariant-loop-variant
invariant-loop-variant l = HasFlows l.program (take l.variant-index l.program.claim.input) l.text
