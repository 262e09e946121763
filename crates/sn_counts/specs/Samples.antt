-- The records of a number as they are made, and what is counted of them.
use Rattle.std.specs.Prelude.{◌≡◌, ℕ, List, Option}
use Rattle.sn_record.specs.declared.item.Fault.{Fault}
use Rattle.sn_net.specs.declared.net.Claim.{Claim}
use Rattle.sn_output.specs.Printed.{ending}
use Rattle.sn_sample.specs.Tally.{Counts, counted}
use Rattle.sn_load.specs.declared.load.Program.{Program}
use Rattle.sn_stop.specs.declared.refusal.Refusal.{Refusal}
use Rattle.sn_stop.specs.declared.refusal.Refusal.TheVariants as refusal
use Rattle.sn_stop.specs.declared.stop.Stop.{Stop}
use Rattle.sn_stop.specs.declared.stop.Stop.TheVariants as stop
use Rattle.sn_plain.specs.Sample.{AreTypedSamples, HasNoRoom, IsWrongSample, answers_to, names_with, records_of}
use Rattle.sn_counts.specs.declared.sample.Samples.{Samples}

-- why the names of the labels were not entered
abbrev pub IsWrongEntry : List (List ℕ) → Stop → Type 0
IsWrongEntry names (stop.Refused why) = (why ≡ refusal.TooManyNames) × HasNoRoom names
IsWrongEntry names (stop.Faulted fault) = ⊥
IsWrongEntry names (stop.Unread which) = ⊥
IsWrongEntry names stop.Memory = Unit {0}
IsWrongEntry names stop.Write = ⊥

-- why a number gives a net no records to run on
abbrev pub IsRefusedSample : List (List ℕ) → Claim → ℕ → ℕ → Refusal → Type 0
IsRefusedSample names claim number count (refusal.TooLarge which) = ⊥
IsRefusedSample names claim number count (refusal.Source fault at) = ⊥
IsRefusedSample names claim number count refusal.NoMain = ⊥
IsRefusedSample names claim number count (refusal.TooDeep at) = ⊥
IsRefusedSample names claim number count (refusal.LargeTree at) = ⊥
IsRefusedSample names claim number count refusal.TooManyNames = HasNoRoom names
IsRefusedSample names claim number count (refusal.IllTyped fault at variant) = ⊥
IsRefusedSample names claim number count (refusal.Variants at) = ⊥
IsRefusedSample names claim number count (refusal.Line fault) = IsWrongSample fault names claim number count
IsRefusedSample names claim number count (refusal.Trace fault) = ⊥

-- why records were not made
abbrev pub WhyNoSamples : List (List ℕ) → Claim → ℕ → ℕ → Stop → Type 0
WhyNoSamples names claim number count (stop.Refused why) = IsRefusedSample names claim number count why
WhyNoSamples names claim number count (stop.Faulted fault) = ⊥
WhyNoSamples names claim number count (stop.Unread which) = ⊥
WhyNoSamples names claim number count stop.Memory = Unit {0}
WhyNoSamples names claim number count stop.Write = ⊥

-- what was made
pub record AreSamples (names : List (List ℕ)) (claim : Claim) (number count : ℕ) (made : Samples) : Type 0 where
  pub names_are : made.names ≡ names_with names
  pub items_are : made.items ≡ records_of names number count
  pub typed : AreTypedSamples names claim number count

-- what was counted of them: the counters, and the fault that ends them
pub record HasCounted (program : Program) (number count : ℕ) (counts : Counts) (fault : Option Fault) : Type 0 where
  pub typed : AreTypedSamples program.names program.claim number count
  pub counts_are : counts ≡ counted (names_with program.names) (answers_to program number count)
  pub fault_is : fault ≡ ending (answers_to program number count)
