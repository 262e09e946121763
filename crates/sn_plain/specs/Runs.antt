-- What a run prints, and why it stops.
use Rattle.std.specs.Prelude.{◌≡◌, ◌⊎◌, ◌≤◌, ℕ, List, length, map, Option, None, Some, IsTrue, false}
use Rattle.sn_io.specs.Told.{appended, AppendsPrefix}
use Rattle.sn_record.specs.Record.{Entries}
use Rattle.sn_record.specs.declared.item.Fault.{Fault}
use Rattle.sn_net.specs.declared.net.Net.{Net}
use Rattle.sn_net.specs.Item.{ModelItem, Rec, holds_stuck}
use Rattle.sn_net.specs.Net.{all_deterministic}
use Rattle.sn_model.specs.Meaning.{MayAnswerList, Setting, one_list}
use Rattle.sn_input.specs.declared.input.Input.{Input}
use Rattle.sn_output.specs.Printed.{ending, printed}
use Rattle.sn_load.specs.Load.{IsTypedFile, Limits, setting}
use Rattle.sn_plain.specs.Seen.{Sink, SinkFailed}
use Rattle.sn_load.specs.declared.load.Program.{Program}
use Rattle.sn_load.specs.declared.load.TheConstants.{INPUT_LIMIT}
use Rattle.sn_stop.specs.declared.refusal.Refusal.{Refusal}
use Rattle.sn_stop.specs.declared.stop.Stop.{Stop}
use Rattle.sn_stop.specs.declared.stop.Stop.TheVariants as stop

-- what a command prints, the fault that ends it, if there is one, and what is refused behind it, where an input is read in pieces
pub record Printout : Type 0 where
  pub bytes : List ℕ
  pub ending : Option Fault
  pub refused : Option Refusal

-- these bytes, and this end; nothing is refused behind them
abbrev pub ended : List ℕ → Option Fault → Printout
ended bytes fault = record { bytes = bytes; ending = fault; refused = None }

-- what no fault ends
abbrev pub whole : List ℕ → Printout
whole bytes = ended bytes None

-- what is refused behind these bytes
abbrev pub cut_by : List ℕ → Refusal → Printout
cut_by bytes refusal = record { bytes = bytes; ending = None; refused = Some refusal }

-- it is what is printed of the stream, up to the first fault
pub record IsOfStream (names : List (List ℕ)) (stream : List ModelItem) (p : Printout) : Type 0 where
  pub bytes_are : p.bytes ≡ printed names stream
  pub ending_is : p.ending ≡ ending stream
  pub unrefused : p.refused ≡ None

-- What is printed where a network with its setting is run over records, whose names are these, in one manner or another.
abbrev pub Manner : Type 1
Manner = Setting → Net → List Entries → List (List ℕ) → Printout → Type 0

-- on one thread it is that of the network's one answer to the records
abbrev pub OnOneThread : Manner
OnOneThread s net records names p = IsOfStream names (one_list s net (map Rec records)) p

-- With workers a stream comes out that the network's merges allow, in which no record lacks a route; and where each choice, star and split
-- merges in order, it is the one-thread answer.
pub record ComesOut (s : Setting) (net : Net) (records : List Entries) (stream : List ModelItem) : Type 0 where
  pub allowed : MayAnswerList s net (map Rec records) stream
  pub routed : holds_stuck stream ≡ false
  pub only : IsTrue (all_deterministic net) → stream ≡ one_list s net (map Rec records)

-- and its records are printed, whatever the schedule
abbrev pub WithWorkers : Manner
WithWorkers s net records names p = ∥ ((stream : List ModelItem) × ComesOut s net records stream × IsOfStream names stream p) ∥₁

-- what a program prints for an input of these bytes, which is within the limit and a record file of its input type
pub record Prints (Shows : Manner) (limits : Limits) (program : Program) (bytes : List ℕ) (p : Printout) : Type 0 where
  pub within : length bytes ≤ INPUT_LIMIT
  pub input : Input
  pub typed : IsTypedFile program.names program.claim bytes input
  pub shown : Shows (setting program limits) program.claim.net input.records input.names p

-- why bytes were not all written: for want of memory, or as the count of `out` rose
abbrev pub WhyCutOff : Sink → List ℕ → Stop → Type 0
WhyCutOff out bytes (stop.Refused refusal) = ⊥
WhyCutOff out bytes (stop.Faulted fault) = ⊥
WhyCutOff out bytes (stop.Unread which) = ⊥
WhyCutOff out bytes stop.Memory = AppendsPrefix out.before out.now bytes
WhyCutOff out bytes stop.Write = SinkFailed out × AppendsPrefix out.before out.now bytes

-- all of it was printed, up to the fault that ends it
abbrev pub HasPrinted : (Printout → Type 0) → Sink → Option Fault → Type 0
HasPrinted Is out fault = (bytes : List ℕ) × Is (ended bytes fault) × (out.now ≡ appended out.before bytes)

-- some first bytes of it were
abbrev pub HasBegun : (Printout → Type 0) → Sink → Type 0
HasBegun Is out = ∥ ((p : Printout) × Is p × AppendsPrefix out.before out.now p.bytes) ∥₁

-- `out` got nothing, or some first bytes of it
abbrev pub GotPart : (Printout → Type 0) → Sink → Type 0
GotPart Begins out = (out.now ≡ out.before) ⊎ HasBegun Begins out

-- the count of `out` rose, and it got some first bytes
abbrev pub HasFailed : (Printout → Type 0) → Sink → Type 0
HasFailed Begins out = SinkFailed out × HasBegun Begins out

-- why it was not all printed
abbrev pub WhyUnfinished : (Printout → Type 0) → Sink → Stop → Type 0
WhyUnfinished Is out (stop.Refused refusal) = ⊥
WhyUnfinished Is out (stop.Faulted fault) = ⊥
WhyUnfinished Is out (stop.Unread which) = ⊥
WhyUnfinished Is out stop.Memory = GotPart Is out
WhyUnfinished Is out stop.Write = HasFailed Is out
