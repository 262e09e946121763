-- What one state takes another takes, where the same completes both from this token on.
use Rattle.std.proofs.Common.{List, ◌∷◌, ◌↔◌, Result, Ok, Err}
use Rattle.sn_ast.specs.declared.terminal.Terminal.{Terminal}
use Rattle.sn_net_parser.specs.Residual.{CompletesIn, StepsIn, Read}
use Rattle.sn_net_parser.specs.declared.machine.Around.{Around}
use Rattle.sn_net_parser.specs.declared.machine.Mode.{Mode}
use Rattle.sn_net_parser.specs.declared.machine.NetParser.{NetParser}
use Rattle.sn_net_parser.specs.declared.machine.NetStop.{NetStop}
use Rattle.sn_net_parser.specs.declared.machine.NetStop.TheVariants.{Memory, Refused, Ended}

pub steps_through : (a : Around) (m n : Mode) (x : Terminal) (r : Result NetParser NetStop) →
    ((w : List Terminal) (t : Read) → CompletesIn a m (x ∷ w) t ↔ CompletesIn a n (x ∷ w) t) → StepsIn a n x r → StepsIn a m x r
steps_through a m n x (Ok s) k h = λ w t. (λ y. (h w t).0 ((k w t).0 y), λ y. (k w t).1 ((h w t).1 y))
steps_through a m n x (Err Memory) k h = tt
steps_through a m n x (Err Refused) k h = λ w t y. h w t ((k w t).0 y)
steps_through a m n x (Err (Ended p at)) k h = (h.0, λ w t. (λ y. (h.1 w t).0 ((k w t).0 y), λ y. (k w t).1 ((h.1 w t).1 y)))
