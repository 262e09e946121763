-- How the caller's turns follow each other.
use Rattle.std.proofs.Common.{◌≡◌, ◌∙◌, ◌≤◌, ◌||◌, arith, ℕ, false, true, List, [], ◌∷◌, ◌++◌, refl, sym, ap, subst, append-nil, append_assoc}
use Rattle.std.specs.Prelude.{Option, None, Some}
use Rattle.sn_record.specs.Record.{Entries}
use Rattle.sn_record.specs.declared.item.Item.TheVariants as item
use Rattle.sn_record.specs.declared.item.Fault.{Fault as FaultAt}
use Rattle.sn_io.specs.Causes.{Rose}
use Rattle.sn_io.specs.Told.{AppendsPrefix, appended}
use Rattle.sn_io.proofs.Told.{appended_none, appended_twice, prefix_after, prefix_none, prefix_whole}
use Rattle.sn_output.specs.Line.{line}
use Rattle.sn_output.specs.Printed.{ending, printed}
use Rattle.sn_stream.specs.declared.item.StreamItem.{StreamItem}
use Rattle.sn_stream.specs.declared.item.StreamItem.TheVariants.{Item, Mark, End}
use Rattle.sn_crew.specs.Root.{HasBegun, HasWritten, has_ended, items_among}
use Rattle.sn_crew.specs.Turns.{GoesOn, TurnsAs}
use Rattle.sn_crew.specs.declared.lead.Turn.{Turn}

ended_then : (xs ys : List StreamItem) → has_ended (xs ++ ys) ≡ (has_ended xs || has_ended ys)
ended_then [] ys = refl
ended_then (Item x ∷ xs) ys = ended_then xs ys
ended_then (Mark ∷ xs) ys = ended_then xs ys
ended_then (End ∷ xs) ys = refl

-- after entries without an end
still : (xs ys : List StreamItem) → has_ended xs ≡ false → has_ended (xs ++ ys) ≡ has_ended ys
still xs ys none = ended_then xs ys ∙ ap (λ b. b || has_ended ys) none

-- after entries without a fault
ending_then : (xs ys : List StreamItem) → ending (items_among xs) ≡ None → ending (items_among (xs ++ ys)) ≡ ending (items_among ys)
ending_then [] ys none = refl
ending_then (Item (item.Rec r) ∷ xs) ys none = ending_then xs ys none
ending_then (Item (item.Fault fault) ∷ xs) ys none = cc
ending_then (Mark ∷ xs) ys none = ending_then xs ys none
ending_then (End ∷ xs) ys none = ending_then xs ys none

module _ (names : List (List ℕ)) where
  lines_then : (xs ys : List StreamItem) → ending (items_among xs) ≡ None → printed names (items_among (xs ++ ys)) ≡ printed names (items_among xs) ++ printed names (items_among ys)
  lines_then [] ys none = refl
  lines_then (Item (item.Rec r) ∷ xs) ys none =
      ap (λ bytes. line names r ++ bytes) (lines_then xs ys none) ∙ sym (append_assoc (line names r) (printed names (items_among xs)) (printed names (items_among ys)))
  lines_then (Item (item.Fault fault) ∷ xs) ys none = cc
  lines_then (Mark ∷ xs) ys none = lines_then xs ys none
  lines_then (End ∷ xs) ys none = lines_then xs ys none

  -- nothing was got, and nothing was written
  pub nothing : (entries : List StreamItem) (held : Option (List ℕ)) → entries ≡ [] → GoesOn names entries held held
  nothing entries held none = subst (λ (es : List StreamItem). GoesOn names es held held) (sym none) (record { ended_is = refl; fault_is = refl; all = sym (appended_none held) })

  module _ (entries : List StreamItem) (first before : Option (List ℕ)) (so_far : GoesOn names entries first before) where
    -- an entry came for which nothing is printed
    unprinted : (x : StreamItem) → printed names (items_among (x ∷ [])) ≡ [] → before ≡ appended first (printed names (items_among (entries ++ x ∷ [])))
    unprinted x none =
        so_far.all ∙ ap (appended first) (sym (lines_then entries (x ∷ []) so_far.fault_is ∙ ap (λ bytes. printed names (items_among entries) ++ bytes) none ∙ append-nil (printed names (items_among entries))))

    pub came_mark : GoesOn names (entries ++ Mark ∷ []) first before
    came_mark = record {
      ended_is = still entries (Mark ∷ []) so_far.ended_is;
      fault_is = ending_then entries (Mark ∷ []) so_far.fault_is;
      all = unprinted Mark refl;
    }

    pub came_end : HasWritten names (entries ++ End ∷ []) first before true None
    came_end = record {
      ended_is = still entries (End ∷ []) so_far.ended_is;
      fault_is = ending_then entries (End ∷ []) so_far.fault_is;
      all = unprinted End refl;
    }

    pub came_fault : (fault : FaultAt) → HasWritten names (entries ++ Item (item.Fault fault) ∷ []) first before false (Some fault)
    came_fault fault = record {
      ended_is = still entries (Item (item.Fault fault) ∷ []) so_far.ended_is;
      fault_is = ending_then entries (Item (item.Fault fault) ∷ []) so_far.fault_is;
      all = unprinted (Item (item.Fault fault)) refl;
    }

    -- a record came
    line_then : (r : Entries) → printed names (items_among (entries ++ Item (item.Rec r) ∷ [])) ≡ printed names (items_among entries) ++ line names r
    line_then r = lines_then entries (Item (item.Rec r) ∷ []) so_far.fault_is ∙ ap (λ bytes. printed names (items_among entries) ++ bytes) (append-nil (line names r))

    -- and its line was written
    pub wrote : (now : Option (List ℕ)) (r : Entries) → now ≡ appended before (line names r) → GoesOn names (entries ++ Item (item.Rec r) ∷ []) first now
    wrote now r held = record {
      ended_is = still entries (Item (item.Rec r) ∷ []) so_far.ended_is;
      fault_is = ending_then entries (Item (item.Rec r) ∷ []) so_far.fault_is;
      all = held ∙ ap (λ h. appended h (line names r)) so_far.all ∙ appended_twice first (printed names (items_among entries)) (line names r) ∙ ap (appended first) (sym (line_then r));
    }

    -- or some of it
    pub wrote_part : (now : Option (List ℕ)) (r : Entries) → AppendsPrefix before now (line names r) → HasBegun names (entries ++ Item (item.Rec r) ∷ []) first now
    wrote_part now r part = record {
      goes_on = still entries (Item (item.Rec r) ∷ []) so_far.ended_is;
      unfaulted = ending_then entries (Item (item.Rec r) ∷ []) so_far.fault_is;
      part = subst (AppendsPrefix first now) (sym (line_then r)) (prefix_after first before now (printed names (items_among entries)) (line names r) so_far.all part);
    }

    -- or nothing
    pub wrote_none : (now : Option (List ℕ)) (r : Entries) → now ≡ before → HasBegun names (entries ++ Item (item.Rec r) ∷ []) first now
    wrote_none now r same = wrote_part now r (subst (λ (h : Option (List ℕ)). AppendsPrefix before h (line names r)) (sym same) (prefix_none before (line names r)))

    -- the caller gave up
    pub gave_up : HasBegun names entries first before
    gave_up = record {
      goes_on = so_far.ended_is;
      unfaulted = so_far.fault_is;
      part = prefix_whole first before (printed names (items_among entries)) so_far.all;
    }

-- one turn more, where the names are told to be those of before, and what came of the turn
pub turn_then : (names later : List (List ℕ)) (old new : List StreamItem) (first before now : Option (List ℕ)) (turn told : Turn) → later ≡ names → turn ≡ told
    → (GoesOn later old first before → TurnsAs later new first now turn) → GoesOn names old first before → TurnsAs names new first now told
turn_then names later old new first before now turn told same is goes so_far =
    subst (λ (t : Turn). TurnsAs names new first now t) is
    (subst (λ (ns : List (List ℕ)). GoesOn ns old first before → TurnsAs ns new first now turn) same goes so_far)

pub rose_sooner : (first before now : ℕ) → first ≤ before → Rose before now → Rose first now
rose_sooner first before now sooner rose = omega (arith, sooner, rose)

pub later_then : (first before now : ℕ) → first ≤ before → before ≤ now → first ≤ now
later_then first before now sooner later = omega (arith, sooner, later)
