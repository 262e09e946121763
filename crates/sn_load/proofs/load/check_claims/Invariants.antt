use Rattle.std.proofs.Common.{take}
use Rattle.std.specs.List.{All}
use Rattle.sn_typing.specs.Accepted.{IsAccepted}
use Rattle.sn_load.proofs.load.check_claims.Given as goal

abbrev pub invariant-loop-claim : goal.invariant-loop-claim
invariant-loop-claim l = All (IsAccepted l.parts.boxes) (take l.claim-index l.parts.claims)
