-- How a run ended.
use Rattle.std.proofs.Common.{◌≡◌, ℕ, IsTrue, List, refl}
use Rattle.std.specs.Prelude.{Option, Some}
use Rattle.sn_record.specs.declared.item.Fault.{Fault as FaultAt}
use Rattle.sn_io.specs.Told.{AppendsPrefix}
use Rattle.sn_io.proofs.Told.{prefix_whole}
use Rattle.sn_output.specs.Printed.{ending, printed}
use Rattle.sn_stream.specs.declared.item.StreamItem.{StreamItem}
use Rattle.sn_crew.specs.Root.{has_ended, items_among}
use Rattle.sn_crew.specs.Turns.{EndsAs}
use Rattle.sn_model.specs.declared.outcome.Outcome.{Outcome}
use Rattle.sn_model.specs.declared.outcome.Outcome.TheVariants.{Whole, Faulted, WriteFault, Memory}

module _ (names : List (List ℕ)) (entries : List StreamItem) (before now : Option (List ℕ)) where
  pub written : (outcome : Outcome) → EndsAs names entries before now outcome → AppendsPrefix before now (printed names (items_among entries))
  written Whole ends = prefix_whole before now (printed names (items_among entries)) ends.all
  written (Faulted fault) ends = prefix_whole before now (printed names (items_among entries)) ends.all
  written WriteFault ends = ends.part
  written Memory ends = ends.part

  -- where the end was got the run is whole
  pub ended : (outcome : Outcome) → EndsAs names entries before now outcome → IsTrue (has_ended entries) → outcome ≡ Whole
  ended Whole ends is = refl
  ended (Faulted fault) ends is = absurd (cc (is, ends.ended_is))
  ended WriteFault ends is = absurd (cc (is, ends.goes_on))
  ended Memory ends is = absurd (cc (is, ends.goes_on))

  -- where a fault was got the run ended by it
  pub faulted : (outcome : Outcome) → EndsAs names entries before now outcome → (fault : FaultAt) → ending (items_among entries) ≡ Some fault → outcome ≡ Faulted fault
  faulted Whole ends fault is = absurd (cc (is, ends.fault_is))
  faulted (Faulted other) ends fault is = cc (is, ends.fault_is)
  faulted WriteFault ends fault is = absurd (cc (is, ends.unfaulted))
  faulted Memory ends fault is = absurd (cc (is, ends.unfaulted))
