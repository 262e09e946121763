-- What a box does: how its expressions are evaluated with fuel, and what a call of it answers.
use Rattle.std.specs.Prelude.{ℕ, zero, suc, pos, Bool, true, false, not, if◌then◌else◌, List, [], ◌∷◌, ◌++◌, map, slice_get, Option, None, Some, Result, Ok, Err}
use Rattle.std.specs.FinMap as finite
use Rattle.sn_record.specs.declared.label.Label.{Label}
use Rattle.sn_record.specs.declared.label.Kind.{Kind as LabelKind}
use Rattle.sn_record.specs.declared.label.Kind.TheVariants.{Field, Tag}
use Rattle.sn_record.specs.declared.item.FaultKind.{FaultKind}
use Rattle.sn_record.specs.declared.item.FaultKind.TheVariants.{Fuel, Kind}
use Rattle.sn_record.specs.declared.value.Value.{Value}
use Rattle.sn_record.specs.declared.value.Value.TheOpen.{Value-F}
use Rattle.sn_record.specs.declared.value.Value.TheViews.{out-Value}
use Rattle.sn_record.specs.declared.value.Value.TheVariants.{Int, «Text», «List» as ListOf}
use Rattle.sn_record.specs.Record.{Entries, inherit}
use Rattle.sn_tagexpr.specs.declared.expr.BinOp.{BinOp}
use Rattle.sn_net.specs.declared.expr.BoxProgram.{BoxProgram}
use Rattle.sn_net.specs.declared.expr.Fun.{Fun}
use Rattle.sn_net.specs.declared.expr.Expr.{Expr}
use Rattle.sn_net.specs.declared.expr.Expr.TheOpen.{Expr-F}
use Rattle.sn_net.specs.declared.expr.Expr.TheViews.{out-Expr}
use Rattle.sn_net.specs.BoxValues.{onward, there_or, fitting, condition, negative, opposite, truth_of, truth_value, combined, built_in}
use Rattle.sn_net.specs.Face.{variant_of}
use Rattle.sn_net.specs.Item.{ModelItem, Rec, Fault}

-- the fuel that is left, and the records that were emitted so far
pub record Progress : Type 0 where
  pub fuel : ℕ
  pub emitted : List Entries

-- how an evaluation ends: with what it gives, or with a fault, which ends the call. What was emitted stays
pub data Outcome (A : Type 0) : Type 0 where
  Gives : A → Progress → Outcome A
  Faults : FaultKind → List Entries → Outcome A

-- the fault, or what follows on what was given
abbrev pub followed : {A B : Type 0} → Outcome A → (A → Progress → Outcome B) → Outcome B
followed (Gives x progress) next = next x progress
followed (Faults fault emitted) next = Faults fault emitted

-- what takes no fuel and emits nothing
abbrev pub ended : {A : Type 0} → Result A FaultKind → Progress → Outcome A
ended (Ok x) progress = Gives x progress
ended (Err fault) progress = Faults fault progress.emitted

-- how an expression is evaluated where variables have values
abbrev pub Evaluator : Type 0
Evaluator = Expr → List Value → Progress → Outcome Value

-- the values so far, and then those of the parts, from left to right
abbrev pub all_values : Evaluator → List Expr → List Value → List Value → Progress → Outcome (List Value)
all_values evaluate [] variables values progress = Gives values progress
all_values evaluate (part ∷ parts) variables values progress =
    followed (evaluate part variables progress) (λ v. all_values evaluate parts variables (values ++ v ∷ []))

-- the value of the last part, or the one before where there is no part
abbrev pub last_value : Evaluator → List Expr → List Value → Value → Progress → Outcome Value
last_value evaluate [] variables value progress = Gives value progress
last_value evaluate (part ∷ parts) variables value progress =
    followed (evaluate part variables progress) (last_value evaluate parts variables)

-- an operator's right part, and then what the operator gives of both values
abbrev pub right_part : Evaluator → BinOp → Expr → List Value → Value → Progress → Outcome Value
right_part evaluate op part variables left progress = followed (evaluate part variables progress) (λ right. ended (combined op left right))

-- the truth of a part that is needed, or else 0 or 1
abbrev pub unless_decided : Evaluator → Bool → Expr → List Value → Bool → Progress → Outcome Value
unless_decided evaluate true part variables value progress = Gives (truth_value value) progress
unless_decided evaluate false part variables value progress = followed (evaluate part variables progress) (λ v. ended (truth_of v))

-- `&&` needs its right part where the left one is not 0, and `||` where it is 0
abbrev pub after_and : Evaluator → Expr → List Value → Value → Progress → Outcome Value
after_and evaluate part variables left progress =
    followed (ended (condition left) progress) (λ holds. unless_decided evaluate (not holds) part variables false)

abbrev pub after_or : Evaluator → Expr → List Value → Value → Progress → Outcome Value
after_or evaluate part variables left progress =
    followed (ended (condition left) progress) (λ holds. unless_decided evaluate holds part variables true)

-- the part that the condition chooses
abbrev pub after_if : Evaluator → Expr → Expr → List Value → Value → Progress → Outcome Value
after_if evaluate then_part else_part variables test progress =
    followed (ended (condition test) progress) (λ holds. evaluate (if holds then then_part else else_part) variables)

-- a function's body, whose variables are its arguments alone
abbrev pub called : Evaluator → Option Fun → List Value → Progress → Outcome Value
called evaluate None arguments progress = Faults Kind progress.emitted
called evaluate (Some function) arguments progress = evaluate function.body arguments progress

-- whether the value may stand at the label: a tag has an Int
abbrev pub fits_kind : LabelKind → Value-F Value → Bool
fits_kind Field value = true
fits_kind Tag (Value-F.Int n) = true
fits_kind Tag (Value-F.Text text) = false
fits_kind Tag (Value-F.List values) = false

-- the record so far with each value at its label
abbrev pub with_values : List Label → List Value → Entries → Result Entries FaultKind
with_values (label ∷ labels) (value ∷ values) made =
    if fits_kind label.kind (out-Value value) then with_values labels values (finite.insert made label value) else Err Kind
with_values labels values made = Ok made

-- a record of the output variant, which is emitted; the value is 0
abbrev pub with_emitted : Result Entries FaultKind → Progress → Outcome Value
with_emitted (Ok made) progress = Gives (Int (pos 0)) (record progress { emitted = progress.emitted ++ made ∷ [] })
with_emitted (Err fault) progress = Faults fault progress.emitted

abbrev pub emitting : Option (List Label) → List Value → Progress → Outcome Value
emitting labels values = with_emitted (onward (there_or Kind labels) (λ labels. with_values labels values finite.empty))

-- one node, whose parts are evaluated from left to right, and those alone that are needed
abbrev pub node : BoxProgram → Evaluator → Expr-F Expr → List Value → Progress → Outcome Value
node program evaluate (Expr-F.Int n) variables progress = Gives (Int n) progress
node program evaluate (Expr-F.TextLit text) variables progress = ended (fitting («Text» text)) progress
node program evaluate (Expr-F.Var i) variables progress = ended (there_or Kind (slice_get variables i)) progress
node program evaluate (Expr-F.Neg e) variables progress = followed (evaluate e variables progress) (λ v. ended (negative v))
node program evaluate (Expr-F.Not e) variables progress = followed (evaluate e variables progress) (λ v. ended (opposite v))
node program evaluate (Expr-F.Op op e f) variables progress = followed (evaluate e variables progress) (right_part evaluate op f variables)
node program evaluate (Expr-F.And e f) variables progress = followed (evaluate e variables progress) (after_and evaluate f variables)
node program evaluate (Expr-F.Or e f) variables progress = followed (evaluate e variables progress) (after_or evaluate f variables)
node program evaluate (Expr-F.If c e f) variables progress = followed (evaluate c variables progress) (after_if evaluate e f variables)
node program evaluate (Expr-F.Let bound rest) variables progress = followed (evaluate bound variables progress) (λ v. evaluate rest (variables ++ v ∷ []))
node program evaluate (Expr-F.Seq parts) variables progress = last_value evaluate parts variables (Int (pos 0)) progress
node program evaluate (Expr-F.ListLit parts) variables progress =
    followed (all_values evaluate parts variables [] progress) (λ values. ended (fitting (ListOf values)))
node program evaluate (Expr-F.Call number parts) variables progress =
    followed (all_values evaluate parts variables [] progress) (called evaluate (slice_get program.funs number))
node program evaluate (Expr-F.Builtin function parts) variables progress =
    followed (all_values evaluate parts variables [] progress) (λ values. ended (built_in function values))
node program evaluate (Expr-F.Emit number parts) variables progress =
    followed (all_values evaluate parts variables [] progress) (emitting (slice_get program.outputs number))

-- a unit of fuel is taken, or none is left
abbrev pub with_unit : ℕ → List Entries → (Progress → Outcome Value) → Outcome Value
with_unit zero emitted next = Faults Fuel emitted
with_unit (suc fuel) emitted next = next (record { fuel = fuel; emitted = emitted })

-- the evaluation of an expression in which so many nodes at most stand within one another
abbrev pub evaluation : BoxProgram → ℕ → Evaluator
evaluation program zero e variables progress = Faults Fuel progress.emitted
evaluation program (suc levels) e variables progress =
    with_unit progress.fuel progress.emitted (node program (evaluation program levels) (out-Expr e) variables)

-- the evaluation of an expression. Each node takes a unit of fuel before its parts, so as many levels as there is fuel are enough
abbrev pub evaluated : BoxProgram → Evaluator
evaluated program e variables progress = evaluation program progress.fuel e variables progress

-- what is there, before more
abbrev pub followed_by : Option Value → List Value → List Value
followed_by None values = values
followed_by (Some value) values = value ∷ values

-- the values that the record has at the labels, in their order
abbrev pub values_at : Entries → List Label → List Value
values_at r [] = []
values_at r (label ∷ labels) = followed_by (finite.get r label) (values_at r labels)

-- the records emitted, each with what it inherits from the record that the box took
abbrev pub inheriting : BoxProgram → Entries → List Entries → List ModelItem
inheriting program r emitted = map (λ made. Rec (inherit r (variant_of program.input) made)) emitted

abbrev pub answered : BoxProgram → ℕ → Entries → Outcome Value → List ModelItem
answered program place r (Gives value progress) = inheriting program r progress.emitted
answered program place r (Faults fault emitted) = inheriting program r emitted ++ Fault (record { kind = fault; place = place }) ∷ []

-- the evaluation of a box's body, whose variables are the box's input labels
abbrev pub body_outcome : BoxProgram → Entries → ℕ → Outcome Value
body_outcome program r fuel = evaluated program program.body (values_at r program.input) (record { fuel = fuel; emitted = [] })

-- what a box answers to a record: what its body emits, in order, and the fault that ended it, if there was one, at the place
abbrev pub box_answer : BoxProgram → ℕ → Entries → ℕ → List ModelItem
box_answer program place r fuel = answered program place r (body_outcome program r fuel)
