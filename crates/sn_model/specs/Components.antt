-- Components: what boxes, filters and synchrocells answer, an item at a time.
use Rattle.std.specs.Prelude.{ℕ, if◌then◌else◌, List, [], ◌∷◌, slice_get, Option, None, Some}
use Rattle.sn_record.specs.LabelSet.{Labels}
use Rattle.sn_record.specs.Record.{Entries, is_match}
use Rattle.sn_streams.specs.Machines.{Machine}
use Rattle.sn_streams.specs.Trees.{Component}
use Rattle.sn_net.specs.declared.expr.BoxProgram.{BoxProgram}
use Rattle.sn_net.specs.declared.filter.Filter.{Filter}
use Rattle.sn_net.specs.Answer.{filter_answer}
use Rattle.sn_net.specs.BoxEvaluation.{box_answer}
use Rattle.sn_net.specs.Cell.{CellState, Passing, cell_next, cell_emits}
use Rattle.sn_net.specs.Dispatchers.{Network}
use Rattle.sn_net.specs.Face.{variant_of}
use Rattle.sn_net.specs.Item.{ModelItem, Rec, Fault, Stuck}

-- a record is answered, and what is no record passes
abbrev pub answering : (Entries → List ModelItem) → ModelItem → List ModelItem
answering answer (Rec r) = answer r
answering answer (Fault fault) = Fault fault ∷ []
answering answer (Stuck place) = Stuck place ∷ []

-- what a filter answers to an item; a record without the labels of its pattern has no route
abbrev pub filter_item : Filter → ModelItem → List ModelItem
filter_item filter = answering (λ r. if is_match r filter.pattern then filter_answer filter r else Stuck filter.place ∷ [])

-- what a call of a box answers to a record; a record without the input labels has no route, and none has one to a box that is not there
abbrev pub call_record : Option BoxProgram → ℕ → ℕ → Entries → List ModelItem
call_record None place fuel r = Stuck place ∷ []
call_record (Some program) place fuel r =
    if is_match r (variant_of program.input) then box_answer program place r fuel else Stuck place ∷ []

-- what the box of a number answers to an item, with so much fuel for each call
abbrev pub box_item : List BoxProgram → ℕ → ℕ → ℕ → ModelItem → List ModelItem
box_item boxes fuel place number = answering (call_record (slice_get boxes number) place fuel)

-- a component that answers each item alone
abbrev pub alone : (ModelItem → List ModelItem) → Network
alone answer = Component (record { next = λ s x. s; emits = λ s x. answer x }) Passing

-- a synchrocell, which keeps records from one item to the next
abbrev pub cell : ℕ → List Labels → Machine ModelItem CellState
cell place patterns = record { next = cell_next patterns; emits = cell_emits place patterns }
