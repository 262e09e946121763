-- The answers that a table leads to.
use Rattle.std.proofs.Common.{◌≡◌, List, [], ◌∷◌, refl, sym, ap, ◌∙◌, subst}
use Rattle.std.specs.Prelude.{Result, Ok, Err}
use Rattle.sn_record.specs.LabelSet.{Labels}
use Rattle.sn_net.specs.Face.{ascending}
use Rattle.sn_net.specs.declared.expr.BoxProgram.{BoxProgram}
use Rattle.sn_net.specs.declared.net.Claim.{Claim}
use Rattle.sn_typing.specs.Outline.{Outline, outline}
use Rattle.sn_flow.specs.declared.fault.FlowFault.{FlowFault}
use Rattle.sn_flow.specs.declared.fault.FlowFault.TheVariants.{NoRoute, BadOutput, TooManyVariants, Memory}
use Rattle.sn_flow.specs.declared.stop.Stop.{Stop}
use Rattle.sn_flow.specs.declared.stop.Stop.TheVariants as stop
use Rattle.sn_flow.specs.declared.table.Table.{Table}
use Rattle.sn_flow.specs.Spots.{spot}
use Rattle.sn_flow.specs.Tables.{rows_of}
use Rattle.sn_flow.specs.Told.{Declared, Routed, fault_of}
use Rattle.sn_flow.specs.Verdicts.{Checked, FlowFound, IsFlowOf, IsSafe}
use Rattle.sn_flow.specs.Visits.{flow_in}
use Rattle.sn_flow.specs.Whole.{EachVisited, IsWhole}
use Rattle.sn_flow.proofs.Deciding.{accepted, bad_output, flow_found, no_route}

-- of a flow
pub flow_refused : (net : Outline) (v : Labels) (t : Table) (fault : FlowFault) → Routed net t (Err fault) → IsWhole net (v ∷ []) t → FlowFound net v (Err fault)
flow_refused net v t (NoRoute at u) told whole = no_route net (v ∷ []) t whole (spot at u) told
flow_refused net v t (BadOutput at u) told whole = told
flow_refused net v t (TooManyVariants at) told whole = absurd told
flow_refused net v t Memory told whole = tt

pub flow_told : (net : Outline) (v : Labels) (t : Table) (flow sorted : List Labels) → Routed net t (Ok tt) → flow ≡ flow_in (rows_of t) v → sorted ≡ ascending flow → IsWhole net (v ∷ []) t → FlowFound net v (Ok sorted)
flow_told net v t flow sorted told is sorted_is whole = subst (λ (us : List Labels). IsSafe net (v ∷ []) × IsFlowOf net v us) (sym (sorted_is ∙ ap ascending is)) (flow_found net v t whole told)

pub flow_stopped : (net : Outline) (v : Labels) (why : Stop) → EachVisited net (v ∷ []) (Err why) → FlowFound net v (Err (fault_of 0 why))
flow_stopped net v stop.TooMany unbounded = (refl, unbounded)
flow_stopped net v stop.Memory visited = tt

-- of a claim
module _ (boxes : List BoxProgram) (claim : Claim) where
  pub claim_refused : (t : Table) (fault : FlowFault) → Routed (outline boxes claim.net) t (Err fault) → IsWhole (outline boxes claim.net) claim.input t → Checked boxes claim (Err fault)
  claim_refused t (NoRoute at u) told whole = no_route (outline boxes claim.net) claim.input t whole (spot at u) told
  claim_refused t (BadOutput at u) told whole = absurd told
  claim_refused t (TooManyVariants at) told whole = absurd told
  claim_refused t Memory told whole = tt

  pub claim_told : (t : Table) (result : Result (Unit {0}) FlowFault) → Routed (outline boxes claim.net) t (Ok tt) → Declared claim (rows_of t) result → IsWhole (outline boxes claim.net) claim.input t → Checked boxes claim result
  claim_told t (Ok done) routed declared whole =
      let told = accepted (outline boxes claim.net) claim.input t whole claim.place claim.output routed declared in
      record { bounded = told.0.bounded; safe = told.0.safe; declared = told.1 }
  claim_told t (Err (NoRoute at u)) routed declared whole = absurd declared
  claim_told t (Err (BadOutput at u)) routed declared whole = bad_output (outline boxes claim.net) claim.input t whole claim.place claim.output routed (spot at u) declared
  claim_told t (Err (TooManyVariants at)) routed declared whole = absurd declared
  claim_told t (Err Memory) routed declared whole = tt

  pub claim_stopped : (why : Stop) → EachVisited (outline boxes claim.net) claim.input (Err why) → Checked boxes claim (Err (fault_of claim.place why))
  claim_stopped stop.TooMany unbounded = (refl, unbounded)
  claim_stopped stop.Memory visited = tt
