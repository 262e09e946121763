use Rattle.std.proofs.Common.{take}
use Rattle.sn_net.specs.Filter.{IsClosedTemplate}
use Rattle.sn_net.proofs.filter.Template.is_closed.Given as goal

abbrev pub invariant-loop-place : goal.invariant-loop-place
invariant-loop-place l = IsClosedTemplate l.pattern (record { parts = take l.place l.parts })
