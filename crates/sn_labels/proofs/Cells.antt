-- What a synchrocell gives and holds has the labels that came.
use Rattle.std.proofs.Common.{ℕ, Bool, true, false, cond, List, [], ◌∷◌, Option, None, Some, IfSome}
use Rattle.std.specs.List.{AllByRecursion as Each, list_any}
use Rattle.std.specs.Option.{option_map}
use Rattle.sn_record.specs.declared.label.Label.{Label}
use Rattle.sn_record.specs.LabelSet.{Labels}
use Rattle.sn_record.specs.Record.{Entries, is_match}
use Rattle.sn_net.specs.Cell.{CellState, Waiting, Passing, Slots, Reception, Held, Joined, Passed, Unmatched, with_record, all_held, union, held_or_joined, placed, reception, state_then, emitted_then, cell_next, cell_emits, new_cell}
use Rattle.sn_net.specs.Item.{ModelItem, Rec, Fault, Stuck}
use Rattle.sn_labels.specs.Flowing.{CellHasOnly, HasOnly, ItemHasOnly, SlotHasOnly}
use Rattle.sn_labels.proofs.Records.{only_empty, only_overlay}

module _ (known : Label → Bool) where
  -- the slots, if there was room
  abbrev SlotsHaveOnly : Option Slots → Type 0
  SlotsHaveOnly slots = IfSome slots (λ held. Each (SlotHasOnly known) held)

  behind : (first : Option Entries) (others : Option Slots) → SlotHasOnly known first → SlotsHaveOnly others → SlotsHaveOnly (option_map (λ more. first ∷ more) others)
  behind first None one only = tt
  behind first (Some others) one only = (one, only)

  record_only : (patterns : List Labels) (slots : Slots) (r : Entries) → Each (SlotHasOnly known) slots → HasOnly known r → SlotsHaveOnly (with_record patterns slots r)
  record_only [] slots r held only = tt
  record_only (pattern ∷ patterns) [] r held only = tt
  record_only (pattern ∷ patterns) (None ∷ slots) r held only = at (is_match r pattern) (record_only patterns slots r held.1 only)
    where
      at : (b : Bool) → SlotsHaveOnly (with_record patterns slots r) → SlotsHaveOnly (cond b (Some (Some r ∷ slots)) (option_map (λ others. None ∷ others) (with_record patterns slots r)))
      at true rest = (only, held.1)
      at false rest = behind None (with_record patterns slots r) tt rest
  record_only (pattern ∷ patterns) (Some one ∷ slots) r held only = behind (Some one) (with_record patterns slots r) held.0 (record_only patterns slots r held.1 only)

  abbrev RecordsHaveOnly : Option (List Entries) → Type 0
  RecordsHaveOnly records = IfSome records (λ all. Each (HasOnly known) all)

  held_only : (slots : Slots) → Each (SlotHasOnly known) slots → RecordsHaveOnly (all_held slots)
  held_only [] only = tt
  held_only (None ∷ slots) only = tt
  held_only (Some one ∷ slots) only = at (all_held slots) (held_only slots only.1)
    where
      at : (records : Option (List Entries)) → RecordsHaveOnly records → RecordsHaveOnly (option_map (λ more. one ∷ more) records)
      at None rest = tt
      at (Some records) rest = (only.0, rest)

  union_only : (records : List Entries) → Each (HasOnly known) records → HasOnly known (union records)
  union_only [] only = only_empty known
  union_only (r ∷ records) only = only_overlay known r (union records) only.0 (union_only records only.1)

  -- what becomes of a record
  abbrev ReceptionHasOnly : Reception → Type 0
  ReceptionHasOnly (Held slots) = Each (SlotHasOnly known) slots
  ReceptionHasOnly (Joined both) = HasOnly known both
  ReceptionHasOnly Passed = Unit {0}
  ReceptionHasOnly Unmatched = Unit {0}

  joined_only : (slots : Slots) (records : Option (List Entries)) → Each (SlotHasOnly known) slots → RecordsHaveOnly records → ReceptionHasOnly (held_or_joined slots records)
  joined_only slots None held only = held
  joined_only slots (Some records) held only = union_only records only

  placed_only : (patterns : List Labels) (r : Entries) (slots : Option Slots) → SlotsHaveOnly slots → ReceptionHasOnly (placed patterns r slots)
  placed_only patterns r (Some slots) held = joined_only slots (all_held slots) held (held_only slots held)
  placed_only patterns r None held = at (list_any (is_match r) patterns)
    where
      at : (b : Bool) → ReceptionHasOnly (cond b Passed Unmatched)
      at true = tt
      at false = tt

  received_only : (patterns : List Labels) (state : CellState) (r : Entries) → CellHasOnly known state → HasOnly known r → ReceptionHasOnly (reception patterns state r)
  received_only patterns (Waiting slots) r held only = placed_only patterns r (with_record patterns slots r) (record_only patterns slots r held only)
  received_only patterns Passing r held only = tt

  state_only : (state : CellState) (x : Reception) → CellHasOnly known state → ReceptionHasOnly x → CellHasOnly known (state_then state x)
  state_only state (Held slots) held only = only
  state_only state (Joined both) held only = tt
  state_only state Passed held only = held
  state_only state Unmatched held only = held

  given_only : (place : ℕ) (r : Entries) (x : Reception) → HasOnly known r → ReceptionHasOnly x → Each (ItemHasOnly known) (emitted_then place r x)
  given_only place r (Held slots) from only = tt
  given_only place r (Joined both) from only = (only, tt)
  given_only place r Passed from only = (from, tt)
  given_only place r Unmatched from only = (tt, tt)

  pub cell_keeps_only : (patterns : List Labels) (state : CellState) (x : ModelItem) → CellHasOnly known state → ItemHasOnly known x → CellHasOnly known (cell_next patterns state x)
  cell_keeps_only patterns state (Rec r) held only = state_only state (reception patterns state r) held (received_only patterns state r held only)
  cell_keeps_only patterns state (Fault fault) held only = held
  cell_keeps_only patterns state (Stuck place) held only = held

  pub cell_only : (place : ℕ) (patterns : List Labels) (state : CellState) (x : ModelItem) → CellHasOnly known state → ItemHasOnly known x → Each (ItemHasOnly known) (cell_emits place patterns state x)
  cell_only place patterns state (Rec r) held only = given_only place r (reception patterns state r) only (received_only patterns state r held only)
  cell_only place patterns state (Fault fault) held only = (tt, tt)
  cell_only place patterns state (Stuck at) held only = (tt, tt)

  none_held : (patterns : List Labels) → CellHasOnly known (new_cell patterns)
  none_held [] = tt
  none_held (pattern ∷ patterns) = (tt, none_held patterns)

  -- a cell to which nothing came holds nothing
  pub new_cell_only : (patterns : List Labels) → CellHasOnly known (new_cell patterns)
  new_cell_only = none_held
