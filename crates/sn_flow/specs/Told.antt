-- What a table says of a network, as the answers that it leads to.
use Rattle.std.specs.Prelude.{◌≡◌, ℕ, List, None, Some, Result, Ok, Err}
use Rattle.sn_net.specs.declared.net.Claim.{Claim}
use Rattle.sn_typing.specs.Outline.{Outline}
use Rattle.sn_flow.specs.declared.fault.FlowFault.{FlowFault}
use Rattle.sn_flow.specs.declared.fault.FlowFault.TheVariants.{NoRoute, BadOutput, TooManyVariants, Memory}
use Rattle.sn_flow.specs.declared.stop.Stop.{Stop}
use Rattle.sn_flow.specs.declared.stop.Stop.TheVariants as stop
use Rattle.sn_flow.specs.declared.table.Row.{Row}
use Rattle.sn_flow.specs.declared.table.Table.{Table}
use Rattle.sn_flow.specs.Spots.{bad_spots, least, spot, spots}

-- why there is no table, in a network at the place
abbrev pub fault_of : ℕ → Stop → FlowFault
fault_of place stop.TooMany = TooManyVariants place
fault_of place stop.Memory = Memory

-- no row is without a route, or this is the soonest
abbrev pub Routed : Outline → Table → Result (Unit {0}) FlowFault → Type 0
Routed net t (Ok done) = least None (spots net t) ≡ None
Routed net t (Err (NoRoute at u)) = least None (spots net t) ≡ Some (spot at u)
Routed net t (Err (BadOutput at u)) = ⊥
Routed net t (Err (TooManyVariants at)) = ⊥
Routed net t (Err Memory) = Unit {0}

-- all that flows out is of the output type, or this is the soonest that is not
abbrev pub Declared : Claim → List Row → Result (Unit {0}) FlowFault → Type 0
Declared claim rows (Ok done) = least None (bad_spots claim.place claim.output rows claim.input) ≡ None
Declared claim rows (Err (NoRoute at u)) = ⊥
Declared claim rows (Err (BadOutput at u)) = least None (bad_spots claim.place claim.output rows claim.input) ≡ Some (spot at u)
Declared claim rows (Err (TooManyVariants at)) = ⊥
Declared claim rows (Err Memory) = Unit {0}
