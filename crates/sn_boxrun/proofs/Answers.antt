-- What a call answers, by what its evaluation leaves behind.
use Rattle.std.proofs.Common.{◌≡◌, ℕ, List, ◌++◌, map, Option, append-nil, refl, ◌∙◌}
use Rattle.sn_record.specs.declared.item.FaultKind.{FaultKind}
use Rattle.sn_record.specs.declared.value.Value.{Value}
use Rattle.sn_record.specs.LabelSet.{Labels}
use Rattle.sn_record.specs.Record.{Entries}
use Rattle.sn_net.specs.declared.expr.BoxProgram.{BoxProgram}
use Rattle.sn_net.specs.BoxEvaluation.{Outcome, Outcome.{Gives, Faults}, answered}
use Rattle.sn_net.specs.Face.{variant_of}
use Rattle.sn_net.specs.Item.{ModelItem}
use Rattle.sn_boxrun.specs.Call.{emitted_of, fault_of, fault_items, inherited}

-- the records with what they inherit, and then the fault
answered-is : (program : BoxProgram) (place : ℕ) (r : Entries) (outcome : Outcome Value)
    → map (inherited r (variant_of program.input)) (emitted_of outcome) ++ fault_items place (fault_of outcome) ≡ answered program place r outcome
answered-is program place r (Gives value progress) = append-nil _
answered-is program place r (Faults fault emitted) = refl

-- the answer is made of what the evaluation leaves behind
pub answered-from : (program : BoxProgram) (place : ℕ) (r : Entries) (outcome : Outcome Value) (input : Labels) (emitted : List Entries) (fault : Option FaultKind) (records all : List ModelItem)
    → emitted ≡ emitted_of outcome → fault ≡ fault_of outcome → input ≡ variant_of program.input → records ≡ map (inherited r input) emitted
    → all ≡ records ++ fault_items place fault → all ≡ answered program place r outcome
answered-from program place r outcome input emitted fault records all emitted-is fault-is input-is records-is all-is =
    all-is ∙ (λ i. records-is i ++ fault_items place (fault-is i)) ∙ (λ i. map (inherited r (input-is i)) (emitted-is i) ++ fault_items place (fault_of outcome)) ∙ answered-is program place r outcome
