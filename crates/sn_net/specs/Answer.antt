-- What a filter answers to a record that matches its pattern.
use Rattle.std.specs.Prelude.{ℕ, ℤ, pos, if◌then◌else◌, List, [], ◌∷◌, map, Option, None, Some, Result, Ok, Err}
use Rattle.std.specs.FinMap.{empty, get, insert}
use Rattle.sn_record.specs.declared.label.Label.{Label}
use Rattle.sn_record.specs.declared.value.Value.{Value}
use Rattle.sn_record.specs.declared.value.Value.TheOpen.{Value-F}
use Rattle.sn_record.specs.declared.value.Value.TheViews.{out-Value}
use Rattle.sn_record.specs.declared.value.Value.TheVariants.{Int}
use Rattle.sn_record.specs.declared.item.Fault.{Fault as FaultAt}
use Rattle.sn_record.specs.declared.item.FaultKind.{FaultKind}
use Rattle.sn_record.specs.declared.item.FaultKind.TheVariants as kind
use Rattle.sn_record.specs.LabelSet.{Labels}
use Rattle.sn_record.specs.Record.{Entries, inherit}
use Rattle.sn_tagexpr.specs.declared.fault.ExprFault.{ExprFault}
use Rattle.sn_tagexpr.specs.declared.fault.ExprFault.TheVariants.{Overflow, DivZero}
use Rattle.sn_tagexpr.specs.Evaluation.{worth}
use Rattle.sn_tagexpr.specs.Operators.{is_zero}
use Rattle.sn_net.specs.declared.filter.Part.{Part}
use Rattle.sn_net.specs.declared.filter.Part.TheVariants.{Copy, Rename, Compute}
use Rattle.sn_net.specs.declared.filter.Template.{Template}
use Rattle.sn_net.specs.declared.filter.Arm.{Arm}
use Rattle.sn_net.specs.declared.filter.Filter.{Filter}
use Rattle.sn_net.specs.Filter.{field, tag, target}
use Rattle.sn_net.specs.Item.{ModelItem, Rec, Fault}

-- the number of an Int; no other value stands at a tag
abbrev pub number_in : Value-F Value → ℤ
number_in (Value-F.Int n) = n
number_in (Value-F.Text text) = pos 0
number_in (Value-F.List values) = pos 0

abbrev pub number_at : Option Value → ℤ
number_at None = pos 0
number_at (Some value) = number_in (out-Value value)

-- the number of each tag of the record
abbrev pub tag_number : Entries → ℕ → ℤ
tag_number r id = number_at (get r (tag id))

-- a computed number as a value
abbrev pub computed : Result ℤ ExprFault → Result (Option Value) ExprFault
computed (Ok n) = Ok (Some (Int n))
computed (Err fault) = Err fault

-- the value that a part gives its label, where the record has what it takes, or the fault of its expression
abbrev pub part_value : Entries → Part → Result (Option Value) ExprFault
part_value r (Copy label) = Ok (get r label)
part_value r (Rename new old) = Ok (get r (field old))
part_value r (Compute id expr) = computed (worth (tag_number r) expr)

-- the record with the value, if there is one, at the label
abbrev pub with_value : Entries → Label → Option Value → Entries
with_value made label None = made
with_value made label (Some value) = insert made label value

-- the fault, or what comes of the record with the value
abbrev pub and_then : Entries → Label → Result (Option Value) ExprFault → (Entries → Result Entries ExprFault) → Result Entries ExprFault
and_then made label (Ok value) next = next (with_value made label value)
and_then made label (Err fault) next = Err fault

-- the record so far with what the parts set, from left to right, or the first fault
abbrev pub with_parts : Entries → List Part → Entries → Result Entries ExprFault
with_parts r [] made = Ok made
with_parts r (part ∷ parts) made = and_then made (target part) (part_value r part) (with_parts r parts)

-- the record with what it inherits from r, whose labels of the pattern were named
abbrev pub inherited : Entries → Labels → Result Entries ExprFault → Result Entries ExprFault
inherited r pattern (Ok made) = Ok (inherit r pattern made)
inherited r pattern (Err fault) = Err fault

-- the record of a template, or its first fault
abbrev pub template_record : Entries → Labels → Template → Result Entries ExprFault
template_record r pattern template = inherited r pattern (with_parts r template.parts empty)

abbrev pub fault_kind : ExprFault → FaultKind
fault_kind Overflow = kind.Overflow
fault_kind DivZero = kind.DivZero

abbrev pub fault_at : ℕ → ExprFault → FaultAt
fault_at place fault = record { kind = fault_kind fault; place = place }

-- the records before the first fault, and then that fault at the place
abbrev pub up_to_fault : ℕ → List (Result Entries ExprFault) → List ModelItem
up_to_fault place [] = []
up_to_fault place (Ok r ∷ more) = Rec r ∷ up_to_fault place more
up_to_fault place (Err fault ∷ more) = Fault (fault_at place fault) ∷ []

-- a guard that is not 0 takes the templates of its arm, one that is 0 leaves the choice to what follows, and one that faults ends it
abbrev pub chosen_by : Result ℤ ExprFault → List Template → Result (List Template) ExprFault → Result (List Template) ExprFault
chosen_by (Ok n) own following = if is_zero n then following else Ok own
chosen_by (Err fault) own following = Err fault

-- the templates of the first arm whose guard is not 0, or the last list where every guard is 0; or the fault of a guard before that
abbrev pub chosen : (ℕ → ℤ) → List Arm → List Template → Result (List Template) ExprFault
chosen tags [] last = Ok last
chosen tags (arm ∷ arms) last = chosen_by (worth tags arm.guard) arm.templates (chosen tags arms last)

-- what comes of the templates that were chosen, in order, or the fault of a guard alone
abbrev pub outcomes : Entries → Labels → Result (List Template) ExprFault → List (Result Entries ExprFault)
outcomes r pattern (Ok templates) = map (template_record r pattern) templates
outcomes r pattern (Err fault) = Err fault ∷ []

-- the templates that the filter uses for a record, or the fault of a guard
abbrev pub used : Filter → Entries → Result (List Template) ExprFault
used filter r = chosen (tag_number r) filter.arms filter.templates

-- an item for each template that the filter uses, in order, up to the first fault, which stands at the filter's place
abbrev pub filter_answer : Filter → Entries → List ModelItem
filter_answer filter r = up_to_fault filter.place (outcomes r filter.pattern (used filter r))
