-- What components give for one entry.
use Rattle.std.proofs.Common.{◌≡◌, ◌≢◌, ℕ, Bool, true, false, ◌||◌, List, [], ◌∷◌, map, refl, sym, ap, ◌∙◌, subst}
use Rattle.std.specs.Prelude.{if◌then◌else◌, slice_get, Option, None, Some, Result, IfOk}
use Rattle.std.proofs.lemmas.Bool.{false≢true}
use Rattle.sn_list.specs.declared.memory.Memory.{Memory}
use Rattle.sn_record.specs.Record.{Entries, Matches, is_match}
use Rattle.sn_record.proofs.Scores.{is_match-Matches}
use Rattle.sn_record.specs.declared.item.Item.{Item}
use Rattle.sn_net.specs.declared.expr.BoxProgram.{BoxProgram}
use Rattle.sn_net.specs.declared.filter.Filter.{Filter}
use Rattle.sn_net.specs.Answer.{filter_answer}
use Rattle.sn_net.specs.BoxEvaluation.{box_answer}
use Rattle.sn_net.specs.Face.{variant_of}
use Rattle.sn_model.specs.Components.{box_item, call_record, filter_item}
use Rattle.sn_boxrun.proofs.Answering.{answers_job}
use Rattle.sn_record.specs.declared.item.Fault.{Fault as FaultAt}
use Rattle.sn_net.specs.declared.net.Net.{Net}
use Rattle.sn_net.specs.declared.net.Net.TheOpen.{Net-F}
use Rattle.sn_net.specs.Cell.{CellState}
use Rattle.sn_net.specs.Item.{Fault, ModelItem, Rec, Stuck, holds_stuck, is_stuck, modelled}
use Rattle.sn_net.specs.Cell.{Reception, Unmatched, emitted_then}
use Rattle.sn_histories.specs.Entries.{Item as ItemEntry}
use Rattle.sn_routed.specs.Routed.{has_stuck}
use Rattle.sn_model.specs.Meaning.{Setting}
use Rattle.sn_component.specs.Component.{machine_of}

pub fault_passes : (s : Setting) (form : Net-F Net) (state : CellState) (fault : FaultAt) → (machine_of s form).emits state (Fault fault) ≡ Fault fault ∷ []
fault_passes s (Net-F.Box place number) state fault = refl
fault_passes s (Net-F.Filter filter) state fault = refl
fault_passes s (Net-F.Sync place patterns) state fault = refl
fault_passes s (Net-F.Serial left right) state fault = refl
fault_passes s (Net-F.Choice place merge branches faces) state fault = refl
fault_passes s (Net-F.Star place merge body exit guard) state fault = refl
fault_passes s (Net-F.Split place merge body id) state fault = refl

pub fault_keeps : (s : Setting) (form : Net-F Net) (state : CellState) (fault : FaultAt) → (machine_of s form).next state (Fault fault) ≡ state
fault_keeps s (Net-F.Box place number) state fault = refl
fault_keeps s (Net-F.Filter filter) state fault = refl
fault_keeps s (Net-F.Sync place patterns) state fault = refl
fault_keeps s (Net-F.Serial left right) state fault = refl
fault_keeps s (Net-F.Choice place merge branches faces) state fault = refl
fault_keeps s (Net-F.Star place merge body exit guard) state fault = refl
fault_keeps s (Net-F.Split place merge body id) state fault = refl

-- a box answers a record that its input matches, and a filter one that its pattern does
pub box_gives : (boxes : List BoxProgram) (fuel place number : ℕ) (b : BoxProgram) (r : Entries) (result : Result (List Item) Memory) → slice_get boxes number ≡ Some b
    → Matches r (variant_of b.input) → IfOk result (λ items. map modelled items ≡ box_answer b place r fuel)
    → IfOk result (λ items. map modelled items ≡ box_item boxes fuel place number (Rec r))
box_gives boxes fuel place number b r result at matches is =
    subst (λ given. IfOk result (λ items. map modelled items ≡ given)) (answers_job boxes fuel place number b r at matches) is

pub filter_gives : (filter : Filter) (r : Entries) (result : Result (List Item) Memory) → Matches r filter.pattern
    → IfOk result (λ items. map modelled items ≡ filter_answer filter r) → IfOk result (λ items. map modelled items ≡ filter_item filter (Rec r))
filter_gives filter r result matches is =
    subst (λ given. IfOk result (λ items. map modelled items ≡ given))
    (sym (ap (λ (test : Bool). if test then filter_answer filter r else Stuck filter.place ∷ []) ((is_match-Matches r filter.pattern).1 matches))) is

-- items lack a route as entries where they do as items
pub stuck_items : (ys : List ModelItem) → has_stuck (map ItemEntry ys) ≡ holds_stuck ys
stuck_items [] = refl
stuck_items (y ∷ ys) = ap (λ b. is_stuck y || b) (stuck_items ys)

-- a test without which a record would be stuck
met : (b : Bool) (ys : List ModelItem) (place : ℕ) → holds_stuck (if b then ys else Stuck place ∷ []) ≡ false → b ≡ true
met true ys place none = refl
met false ys place none = absurd (false≢true (sym none))

-- a filter with a route for a record matches it
pub filter_met : (filter : Filter) (r : Entries) → holds_stuck (filter_item filter (Rec r)) ≡ false → Matches r filter.pattern
filter_met filter r none = (is_match-Matches r filter.pattern).0 (met (is_match r filter.pattern) (filter_answer filter r) filter.place none)

-- a box with a route for a record is there, and its input matches it
pub box_met : (boxes : List BoxProgram) (fuel place number : ℕ) (r : Entries) → holds_stuck (box_item boxes fuel place number (Rec r)) ≡ false
    → (program : BoxProgram) × (slice_get boxes number ≡ Some program) × Matches r (variant_of program.input)
box_met boxes fuel place number r none = called (slice_get boxes number) refl none
  where
    called : (o : Option BoxProgram) → slice_get boxes number ≡ o → holds_stuck (call_record o place fuel r) ≡ false
        → (program : BoxProgram) × (slice_get boxes number ≡ Some program) × Matches r (variant_of program.input)
    called None there e = absurd (false≢true (sym e))
    called (Some program) there e =
        (program, there, (is_match-Matches r (variant_of program.input)).0 (met (is_match r (variant_of program.input)) (box_answer program place r fuel) place e))

-- a synchrocell with a route for a record does not leave it unmatched
pub cell_met : (place : ℕ) (r : Entries) (what : Reception) → holds_stuck (emitted_then place r what) ≡ false → what ≢ Unmatched
cell_met place r what none is = false≢true (sym none ∙ ap (λ w. holds_stuck (emitted_then place r w)) is)
