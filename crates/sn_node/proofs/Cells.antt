-- How a synchrocell passes its first entry on.
use Rattle.std.proofs.Common.{◌≡◌, ℕ, ◌≤◌, length, arith, IsTrue, List, refl, sym, ap, subst, ◌∙◌}
use Rattle.std.specs.Prelude.{Option, None, Some, Result, Ok, Err, OnOk, IfOk}
use Rattle.std.specs.List.{list_all}
use Rattle.std.proofs.lemmas.Bool.{false≢true}
use Rattle.sn_record.specs.LabelSet.{Labels}
use Rattle.sn_record.specs.Record.{Entries}
use Rattle.sn_net.specs.declared.net.Net.TheOpen.{Net-F}
use Rattle.sn_net.specs.Cell.{CellState, Reception, Held, Joined, Passed, Unmatched, reception, emitted_then, cell_emits}
use Rattle.sn_net.specs.Item.{ModelItem, Rec, Fault, Stuck}
use Rattle.sn_model.specs.declared.run.Run.{Run}
use Rattle.sn_sync.specs.Synchrocell.{Synchrocell, accepts}
use Rattle.sn_sync.proofs.Receptions.{accepted-matched}
use Rattle.sn_view.specs.View.{Entry, It, Mark, End, Waiting, Plain, InFlight, Finished, State, Alone, Cell, InTurn, Freely, Node, first_of}
use Rattle.sn_view.specs.Next.{Given as Step, local_step, plain_entry, items, cell_after, answering_entry}
use Rattle.sn_node.specs.declared.given.Given.{Given}
use Rattle.sn_view.specs.Routed.{is_going}
use Rattle.sn_node.specs.Local.{given_of, cell_step, is_cell, local_at, GivesAtMost}

-- a record that is not stuck at a cell is accepted
pub routed_accepts : (cell : Synchrocell) (r : Entries) → IsTrue (list_all is_going (items (cell_emits 0 cell.patterns cell.state (Rec r)))) → IsTrue (accepts cell r)
routed_accepts cell r routed =
    let R : Reception → Type 0 = λ x. IsTrue (list_all is_going (items (emitted_then 0 r x))) in
    (accepted-matched cell.patterns cell.state r).1 (λ unmatched. let stuck : R Unmatched = subst R unmatched routed in false≢true stuck)

if_plain : ℕ → State → Option (Entry ModelItem) → Option Step
if_plain place s None = None
if_plain place s (Some e) = cell_step place s e

local_if_plain : (run : Run) (place : ℕ) (own : List Labels) (s : State) (w : Option Waiting) → local_step run (Some (Net-F.Sync place own)) s w ≡ if_plain place s (plain_entry w)
unfolding if_plain
local_if_plain run place own Alone None = refl
local_if_plain run place own Alone (Some (Plain e)) = refl
local_if_plain run place own Alone (Some (InFlight call given)) = refl
local_if_plain run place own Alone (Some (Finished given)) = refl
local_if_plain run place own (Cell patterns cell) None = refl
local_if_plain run place own (Cell patterns cell) (Some (Plain e)) = refl
local_if_plain run place own (Cell patterns cell) (Some (InFlight call given)) = refl
local_if_plain run place own (Cell patterns cell) (Some (Finished given)) = refl
local_if_plain run place own (InTurn ds) None = refl
local_if_plain run place own (InTurn ds) (Some (Plain e)) = refl
local_if_plain run place own (InTurn ds) (Some (InFlight call given)) = refl
local_if_plain run place own (InTurn ds) (Some (Finished given)) = refl
local_if_plain run place own (Freely es) None = refl
local_if_plain run place own (Freely es) (Some (Plain e)) = refl
local_if_plain run place own (Freely es) (Some (InFlight call given)) = refl
local_if_plain run place own (Freely es) (Some (Finished given)) = refl

-- what a cell does for its first entry
pub local_is_cell : (run : Run) (place : ℕ) (own : List Labels) (s : State) (w : Option Waiting) (e : Entry ModelItem) → plain_entry w ≡ Some e
    → local_step run (Some (Net-F.Sync place own)) s w ≡ cell_step place s e
unfolding if_plain
local_is_cell run place own s w e is = local_if_plain run place own s w ∙ ap (if_plain place s) is

pub cell_steps : (place : ℕ) {E : Type 0} (result : Result Given E) (old : State) (cell new : Synchrocell) (e : Entry ModelItem)
    → old ≡ Cell cell.patterns cell.state → new.patterns ≡ cell.patterns → OnOk result (new.state ≡ cell_after cell.patterns cell.state e)
    → IfOk result (λ given. given_of given ≡ answering_entry (cell_emits place cell.patterns cell.state) e)
    → IfOk result (λ given. cell_step place old e ≡ Some (record { state = Cell new.patterns new.state; entries = given_of given }))
cell_steps place (Err m) old cell new e was patterns state given = tt
cell_steps place (Ok g) old cell new e was patterns state given =
    let P : List Labels → CellState → List (Entry ModelItem) → Option Step = λ ps s es. Some (record { state = Cell ps s; entries = es }) in
    ap (λ s. cell_step place s e) was
    ∙ ap (λ ps. P ps (cell_after cell.patterns cell.state e) (answering_entry (cell_emits place cell.patterns cell.state) e)) (sym patterns)
    ∙ ap (λ s. P new.patterns s (answering_entry (cell_emits place cell.patterns cell.state) e)) (sym state)
    ∙ ap (P new.patterns new.state) (sym given)

-- at most one entry comes out for an entry
few_for : (place : ℕ) (patterns : List Labels) (cell : CellState) (e : Entry ModelItem) → length (answering_entry (cell_emits place patterns cell) e) ≤ 1
few_for place patterns cell (It (Rec r)) = at (reception patterns cell r)
  where
    at : (x : Reception) → length (items (emitted_then place r x)) ≤ 1
    at (Held slots) = omega arith
    at (Joined both) = omega arith
    at Passed = omega arith
    at Unmatched = omega arith
few_for place patterns cell (It (Fault fault)) = omega arith
few_for place patterns cell (It (Stuck at)) = omega arith
few_for place patterns cell Mark = omega arith
few_for place patterns cell End = omega arith

pub cell_counts : (run : Run) (place : ℕ) (own : List Labels) (n : Node) (e : Entry ModelItem) → IsTrue (is_cell n.state) → plain_entry (first_of n.waiting) ≡ Some e
    → GivesAtMost run (Some (Net-F.Sync place own)) n 1
cell_counts run place own n e cell is = at n.state cell (local_is_cell run place own n.state (first_of n.waiting) e is)
  where
    at : (s : State) → IsTrue (is_cell s) → local_at run (Some (Net-F.Sync place own)) n ≡ cell_step place s e → GivesAtMost run (Some (Net-F.Sync place own)) n 1
    at Alone cell is = absurd (false≢true cell)
    at (Cell patterns state) cell is =
        record { step = record { state = Cell patterns (cell_after patterns state e); entries = answering_entry (cell_emits place patterns state) e }; is = is; few = few_for place patterns state e }
    at (InTurn decisions) cell is = absurd (false≢true cell)
    at (Freely epochs) cell is = absurd (false≢true cell)
