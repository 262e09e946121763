use Rattle.std.proofs.Common.{◌≢◌, take}
use Rattle.std.specs.List.{All}
use Rattle.sn_net.specs.Filter.{target}
use Rattle.sn_net.proofs.filter.is_unset.Given as goal

abbrev pub invariant-loop-part : goal.invariant-loop-part
invariant-loop-part l = All (λ part. target part ≢ l.label) (take l.part-index l.parts)
