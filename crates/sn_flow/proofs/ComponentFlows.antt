-- What components answer, an output at a time.
use Rattle.std.proofs.Common.{◌≡◌, ◌⊎◌, inl, inr, ℕ, ◌+◌, ◌<◌, ◌≤◌, Bool, true, false, List, [], ◌∷◌, length, get_or, take, map as each, sym, ap, ◌∙◌, subst, arith}
use Rattle.std.specs.Prelude.{Ok, Err}
use Rattle.std.specs.List.{Contains}
use Rattle.std.proofs.Math.ListN.{length-map}
use Rattle.std.proofs.lemmas.List.{take_all, get_or-map}
use Rattle.sn_record.specs.LabelSet.{Labels, union, minus}
use Rattle.sn_typing.specs.Outline.{Component}
use Rattle.sn_typing.specs.Flow.{Flows, Takes}
use Rattle.sn_typing.specs.Accepted.{AreFew}
use Rattle.sn_flow.specs.declared.stop.Stop.{Stop}
use Rattle.sn_flow.specs.declared.stop.Stop.TheVariants.{TooMany, Memory}
use Rattle.sn_flow.specs.Taken.{is_taken}
use Rattle.sn_flow.specs.Visits.{Added, Adds, ComponentFlows, Overflows}
use Rattle.sn_flow.proofs.Adding.{add_all_stops, adds_next}
use Rattle.sn_flow.proofs.Lists.{none, unmapped}
use Rattle.sn_flow.proofs.Taking.{is_taken-Takes}
use Rattle.sn_flow.proofs.Parts.{component_flow, nothing_flows}

module _ (takes : List Labels) (named : Labels) (outputs : List Labels) (v : Labels) where
  abbrev pub out : Labels → Labels
  out o = union o (minus v named)

  abbrev pub whole_flow : List Labels
  whole_flow = each out outputs

  routed : (b : Bool) → b ≡ is_taken takes v → b ≡ true → Takes takes v
  routed b is test = (is_taken-Takes takes v).0 (sym is ∙ test)

  unrouted : (b : Bool) → b ≡ is_taken takes v → b ≡ false → Takes takes v → ⊥
  unrouted b is test has = differ (sym ((is_taken-Takes takes v).1 has) ∙ sym is ∙ test)
    where
      differ : true ≡ false → ⊥
      differ e = cc

  in_place : (i : ℕ) (o whole rest : Labels) → i < length outputs → o ≡ get_or outputs i o → whole ≡ union o rest → rest ≡ minus v named → get_or whole_flow i whole ≡ whole
  in_place i o whole rest below here made is = get_or-map out outputs i o whole below ∙ ap out (sym here) ∙ sym (made ∙ ap (union o) is)

  below_all : (i : ℕ) → i < length outputs → i < length whole_flow
  below_all i below = omega (arith, below, length-map outputs out)

  pub component_next : (i : ℕ) (o whole rest : Labels) (flow last : List Labels) → i < length outputs → o ≡ get_or outputs i o → whole ≡ union o rest → rest ≡ minus v named
      → Adds [] (take i whole_flow) flow → Adds flow (whole ∷ []) last → Adds [] (take (i + 1) whole_flow) last
  component_next i o whole rest flow last below here made is first second = adds_next [] whole_flow flow last i whole (below_all i below) (in_place i o whole rest below here made is) first second

  overflows : Takes takes v → Overflows [] whole_flow → (place : ℕ) → AreFew (Flows (Component place takes named outputs) v) → ⊥
  overflows has stops place few = stops tt (record { all = few.all; few = few.few; listed = λ u there. few.listed u (at u there) })
    where
      at : (u : Labels) → Contains [] u ⊎ Contains whole_flow u → Flows (Component place takes named outputs) v u
      at u (inl nothing) = absurd (none u nothing)
      at u (inr there) = let found = unmapped out outputs u there in (has, (found.origin, found.listed, sym found.is))

  pub component_stops : (b : Bool) → b ≡ is_taken takes v → b ≡ true → (i : ℕ) (o whole rest : Labels) (flow last : List Labels) (stop : Stop) → i < length outputs → o ≡ get_or outputs i o → whole ≡ union o rest → rest ≡ minus v named
      → Adds [] (take i whole_flow) flow → Added flow (whole ∷ []) last (Err stop) → ComponentFlows takes named outputs v (Err stop)
  component_stops b is test i o whole rest flow last TooMany below here made rest_is first stops =
      overflows (routed b is test) (add_all_stops [] whole_flow flow last last i whole TooMany (below_all i below) (in_place i o whole rest below here made rest_is) first stops)
  component_stops b is test i o whole rest flow last Memory below here made rest_is first stops = tt

  pub component_done : (b : Bool) → b ≡ is_taken takes v → b ≡ true → (i : ℕ) (flow : List Labels) → length outputs ≤ i → Adds [] (take i whole_flow) flow → ComponentFlows takes named outputs v (Ok flow)
  component_done b is test i flow past adds place =
      component_flow place takes named outputs v flow (routed b is test) (subst (λ (more : List Labels). Adds [] more flow) (take_all i whole_flow (omega (arith, past, length-map outputs out))) adds)

  pub component_none : (b : Bool) → b ≡ is_taken takes v → b ≡ false → (flow : List Labels) → flow ≡ [] → ComponentFlows takes named outputs v (Ok flow)
  component_none b is test flow empty place = nothing_flows place takes named outputs v flow (unrouted b is test) empty
