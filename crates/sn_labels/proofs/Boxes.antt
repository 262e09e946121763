-- What a box gives has the labels that came, and those that its program may emit.
use Rattle.std.proofs.Common.{◌≡◌, ℕ, zero, suc, Bool, true, false, not, cond, if◌then◌else◌, IsTrue, List, [], ◌∷◌, ◌++◌, slice_get, Option, None, Some, Result, Ok, Err, refl}
use Rattle.std.specs.List.{AllByRecursion as Each, list_any}
use Rattle.std.specs.FinMap as map
use Rattle.sn_record.specs.declared.item.FaultKind.{FaultKind}
use Rattle.sn_record.specs.declared.item.FaultKind.TheVariants.{Kind}
use Rattle.sn_record.specs.declared.label.Label.{Label}
use Rattle.sn_record.specs.declared.value.Value.{Value}
use Rattle.sn_record.specs.declared.value.Value.TheViews.{out-Value}
use Rattle.sn_record.specs.Record.{Entries, is_match}
use Rattle.sn_net.specs.declared.expr.BoxProgram.{BoxProgram}
use Rattle.sn_net.specs.declared.expr.Fun.{Fun}
use Rattle.sn_net.specs.declared.expr.Expr.{Expr}
use Rattle.sn_net.specs.declared.expr.Expr.TheOpen.{Expr-F}
use Rattle.sn_net.specs.declared.expr.Expr.TheViews.{out-Expr}
use Rattle.sn_net.specs.BoxValues.{condition, combined, truth_of, negative, opposite}
use Rattle.sn_net.specs.BoxEvaluation.{Progress, Outcome, Outcome.{Gives, Faults}, Evaluator, followed, ended, all_values, last_value, unless_decided, called, emitting, with_emitted, with_values, fits_kind, node, with_unit, evaluation, body_outcome, values_at, answered, inheriting, box_answer}
use Rattle.sn_net.specs.Face.{variant_of}
use Rattle.sn_net.specs.Item.{ModelItem, Rec, Fault, Stuck}
use Rattle.sn_model.specs.Components.{box_item, call_record}
use Rattle.sn_labels.specs.Labels.{is_among, is_of_box}
use Rattle.sn_labels.specs.Flowing.{HasOnly, ItemHasOnly}
use Rattle.sn_labels.proofs.Records.{Covers, each_among, each_at, each_both, each_covered, each_push, only_empty, only_inherit, only_insert, or_second}

module _ (known : Label → Bool) where
  abbrev Well : List Entries → Type 0
  Well = Each (HasOnly known)

  -- each record that was emitted so far has only labels that pass
  abbrev Ends : {A : Type 0} → Outcome A → Type 0
  Ends (Gives x progress) = Well progress.emitted
  Ends (Faults fault emitted) = Well emitted

  -- the record, if each value may stand at its label
  abbrev MadeHasOnly : Result Entries FaultKind → Type 0
  MadeHasOnly (Ok made) = HasOnly known made
  MadeHasOnly (Err fault) = Unit {0}

  values_only : (labels : List Label) (values : List Value) (made : Entries) → Each (λ label. IsTrue (known label)) labels → HasOnly known made → MadeHasOnly (with_values labels values made)
  values_only [] values made are only = only
  values_only (label ∷ labels) [] made are only = only
  values_only (label ∷ labels) (value ∷ values) made are only =
      at (fits_kind label.kind (out-Value value)) (values_only labels values (map.insert made label value) are.1 (only_insert known made label value only are.0))
    where
      at : (b : Bool) → MadeHasOnly (with_values labels values (map.insert made label value)) → MadeHasOnly (cond b (with_values labels values (map.insert made label value)) (Err Kind))
      at true rest = rest
      at false rest = tt

  followed_ends : {A B : Type 0} (outcome : Outcome A) (next : A → Progress → Outcome B) → Ends outcome → ((x : A) (progress : Progress) → Well progress.emitted → Ends (next x progress)) → Ends (followed outcome next)
  followed_ends (Gives x progress) next well more = more x progress well
  followed_ends (Faults fault emitted) next well more = well

  ended_ends : {A : Type 0} (given : Result A FaultKind) (progress : Progress) → Well progress.emitted → Ends (ended given progress)
  ended_ends (Ok x) progress well = well
  ended_ends (Err fault) progress well = well

  emitted_ends : (made : Result Entries FaultKind) (progress : Progress) → MadeHasOnly made → Well progress.emitted → Ends (with_emitted made progress)
  emitted_ends (Ok made) progress only well = each_push (HasOnly known) progress.emitted made well only
  emitted_ends (Err fault) progress only well = well

  emitting_ends : (labels : Option (List Label)) (values : List Value) (progress : Progress) → ((l : List Label) → labels ≡ Some l → Covers known (is_among l)) → Well progress.emitted
      → Ends (emitting labels values progress)
  emitting_ends None values progress covers well = well
  emitting_ends (Some labels) values progress covers well =
      emitted_ends (with_values labels values map.empty) progress (values_only labels values map.empty (each_among known labels (covers labels refl)) (only_empty known)) well

  -- the evaluator emits only such records
  abbrev Emits : Evaluator → Type 0
  Emits evaluate = (e : Expr) (variables : List Value) (progress : Progress) → Well progress.emitted → Ends (evaluate e variables progress)

  module _ (program : BoxProgram) (outputs : Each (λ labels. Covers known (is_among labels)) program.outputs) where
    module _ (evaluate : Evaluator) (emits : Emits evaluate) where
      all_values_ends : (parts : List Expr) (variables values : List Value) (progress : Progress) → Well progress.emitted → Ends (all_values evaluate parts variables values progress)
      all_values_ends [] variables values progress well = well
      all_values_ends (part ∷ parts) variables values progress well =
          followed_ends (evaluate part variables progress) _ (emits part variables progress well) (λ v now good. all_values_ends parts variables (values ++ v ∷ []) now good)

      last_value_ends : (parts : List Expr) (variables : List Value) (value : Value) (progress : Progress) → Well progress.emitted → Ends (last_value evaluate parts variables value progress)
      last_value_ends [] variables value progress well = well
      last_value_ends (part ∷ parts) variables value progress well =
          followed_ends (evaluate part variables progress) _ (emits part variables progress well) (λ v now good. last_value_ends parts variables v now good)

      one_ends : (e : Expr) (variables : List Value) (next : Value → Result Value FaultKind) (progress : Progress) → Well progress.emitted → Ends (followed (evaluate e variables progress) (λ v. ended (next v)))
      one_ends e variables next progress well = followed_ends (evaluate e variables progress) _ (emits e variables progress well) (λ v now good. ended_ends (next v) now good)

      unless_decided_ends : (decided : Bool) (part : Expr) (variables : List Value) (value : Bool) (progress : Progress) → Well progress.emitted → Ends (unless_decided evaluate decided part variables value progress)
      unless_decided_ends true part variables value progress well = well
      unless_decided_ends false part variables value progress well = one_ends part variables truth_of progress well

      called_ends : (function : Option Fun) (arguments : List Value) (progress : Progress) → Well progress.emitted → Ends (called evaluate function arguments progress)
      called_ends None arguments progress well = well
      called_ends (Some function) arguments progress well = emits function.body arguments progress well

      node_ends : (x : Expr-F Expr) (variables : List Value) (progress : Progress) → Well progress.emitted → Ends (node program evaluate x variables progress)
      node_ends (Expr-F.Int i) variables progress well = well
      node_ends (Expr-F.TextLit text) variables progress well = ended_ends _ progress well
      node_ends (Expr-F.Var i) variables progress well = ended_ends _ progress well
      node_ends (Expr-F.Neg e) variables progress well = one_ends e variables negative progress well
      node_ends (Expr-F.Not e) variables progress well = one_ends e variables opposite progress well
      node_ends (Expr-F.Op op e f) variables progress well =
          followed_ends (evaluate e variables progress) _ (emits e variables progress well) (λ left now good. one_ends f variables (combined op left) now good)
      node_ends (Expr-F.And e f) variables progress well =
          followed_ends (evaluate e variables progress) _ (emits e variables progress well)
          (λ left now good. followed_ends (ended (condition left) now) _ (ended_ends (condition left) now good) (λ holds later still. unless_decided_ends (not holds) f variables false later still))
      node_ends (Expr-F.Or e f) variables progress well =
          followed_ends (evaluate e variables progress) _ (emits e variables progress well)
          (λ left now good. followed_ends (ended (condition left) now) _ (ended_ends (condition left) now good) (λ holds later still. unless_decided_ends holds f variables true later still))
      node_ends (Expr-F.If c e f) variables progress well =
          followed_ends (evaluate c variables progress) _ (emits c variables progress well)
          (λ test now good. followed_ends (ended (condition test) now) _ (ended_ends (condition test) now good) (λ holds later still. emits (if holds then e else f) variables later still))
      node_ends (Expr-F.Let bound rest) variables progress well =
          followed_ends (evaluate bound variables progress) _ (emits bound variables progress well) (λ v now good. emits rest (variables ++ v ∷ []) now good)
      node_ends (Expr-F.Seq parts) variables progress well = last_value_ends parts variables _ progress well
      node_ends (Expr-F.ListLit parts) variables progress well =
          followed_ends (all_values evaluate parts variables [] progress) _ (all_values_ends parts variables [] progress well) (λ values now good. ended_ends _ now good)
      node_ends (Expr-F.Call number parts) variables progress well =
          followed_ends (all_values evaluate parts variables [] progress) _ (all_values_ends parts variables [] progress well) (λ values now good. called_ends (slice_get program.funs number) values now good)
      node_ends (Expr-F.Builtin function parts) variables progress well =
          followed_ends (all_values evaluate parts variables [] progress) _ (all_values_ends parts variables [] progress well) (λ values now good. ended_ends _ now good)
      node_ends (Expr-F.Emit number parts) variables progress well =
          followed_ends (all_values evaluate parts variables [] progress) _ (all_values_ends parts variables [] progress well)
          (λ values now good. emitting_ends (slice_get program.outputs number) values now (λ labels is. each_at (λ labels. Covers known (is_among labels)) program.outputs number labels outputs is) good)

    evaluation_ends : (levels : ℕ) → Emits (evaluation program levels)
    evaluation_ends zero e variables progress well = well
    evaluation_ends (suc levels) e variables progress well = at (evaluation_ends levels) progress.fuel
      where
        at : Emits (evaluation program levels) → (fuel : ℕ) → Ends (with_unit fuel progress.emitted (node program (evaluation program levels) (out-Expr e) variables))
        at emits zero = well
        at emits (suc fuel) = node_ends (evaluation program levels) emits (out-Expr e) variables (record { fuel = fuel; emitted = progress.emitted }) well

    -- each emitted record, with what it inherits
    inheriting_only : (r : Entries) (emitted : List Entries) → HasOnly known r → Well emitted → Each (ItemHasOnly known) (inheriting program r emitted)
    inheriting_only r [] from well = tt
    inheriting_only r (made ∷ emitted) from well = (only_inherit known r (variant_of program.input) made from well.0, inheriting_only r emitted from well.1)

    answered_only : (place : ℕ) (r : Entries) (outcome : Outcome Value) → HasOnly known r → Ends outcome → Each (ItemHasOnly known) (answered program place r outcome)
    answered_only place r (Gives value progress) from well = inheriting_only r progress.emitted from well
    answered_only place r (Faults fault emitted) from well = each_both (ItemHasOnly known) (inheriting program r emitted) _ (inheriting_only r emitted from well) (tt, tt)

    called_only : (place fuel : ℕ) (r : Entries) → HasOnly known r → Each (ItemHasOnly known) (call_record (Some program) place fuel r)
    called_only place fuel r from = at (is_match r (variant_of program.input))
      where
        at : (b : Bool) → Each (ItemHasOnly known) (cond b (box_answer program place r fuel) (Stuck place ∷ []))
        at true =
            answered_only place r (body_outcome program r fuel) from (evaluation_ends fuel program.body (values_at r program.input) (record { fuel = fuel; emitted = [] }) tt)
        at false = (tt, tt)

  pub box_only : (boxes : List BoxProgram) (fuel place number : ℕ) (x : ModelItem) → Covers known (λ l. list_any (λ program. is_of_box program l) boxes) → ItemHasOnly known x
      → Each (ItemHasOnly known) (box_item boxes fuel place number x)
  box_only boxes fuel place number (Rec r) covers only = at (slice_get boxes number) refl
    where
      outputs : (program : BoxProgram) → Covers known (is_of_box program) → Each (λ labels. Covers known (is_among labels)) program.outputs
      outputs program own = each_covered known is_among program.outputs (λ l there. own l (or_second (is_among program.input l) (list_any (λ labels. is_among labels l) program.outputs) there))

      at : (program : Option BoxProgram) → slice_get boxes number ≡ program → Each (ItemHasOnly known) (call_record program place fuel r)
      at None is = (tt, tt)
      at (Some program) is = called_only program (outputs program (each_at (λ program. Covers known (is_of_box program)) boxes number program (each_covered known is_of_box boxes covers) is)) place fuel r only
  box_only boxes fuel place number (Fault fault) covers only = (tt, tt)
  box_only boxes fuel place number (Stuck at) covers only = (tt, tt)
