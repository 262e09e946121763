-- What an evaluation leaves behind: what it emitted, and the fault that ended it.
use Rattle.std.specs.Prelude.{ℕ, List, [], ◌∷◌, Option, Some, None}
use Rattle.sn_record.specs.declared.item.FaultKind.{FaultKind}
use Rattle.sn_record.specs.declared.value.Value.{Value}
use Rattle.sn_record.specs.LabelSet.{Labels}
use Rattle.sn_record.specs.Record.{Entries, inherit}
use Rattle.sn_net.specs.BoxEvaluation.{Outcome, Outcome.{Gives, Faults}}
use Rattle.sn_net.specs.Item.{ModelItem, Rec, Fault}

abbrev pub emitted_of : Outcome Value → List Entries
emitted_of (Gives value progress) = progress.emitted
emitted_of (Faults fault emitted) = emitted

abbrev pub fault_of : Outcome Value → Option FaultKind
fault_of (Gives value progress) = None
fault_of (Faults fault emitted) = Some fault

-- the fault, if there is one, at the place
abbrev pub fault_items : ℕ → Option FaultKind → List ModelItem
fault_items place None = []
fault_items place (Some fault) = Fault (record { kind = fault; place = place }) ∷ []

-- a record that was emitted with what it inherits from r, whose labels of the input were named
abbrev pub inherited : Entries → Labels → Entries → ModelItem
inherited r input made = Rec (inherit r input made)
