use Rattle.std.proofs.Common.{take}
use Rattle.std.specs.List.{All}
use Rattle.sn_net.specs.Filter.{IsClosedTemplate}
use Rattle.sn_net.proofs.filter.are_closed.Given as goal

abbrev pub invariant-loop-template : goal.invariant-loop-template
invariant-loop-template l = All (IsClosedTemplate l.pattern) (take l.template-index l.templates)
