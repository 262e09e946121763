-- The steps of the loops over slots.
use Rattle.std.proofs.Common.{◌≡◌, ℕ, suc, arith, ◌+◌, ◌<◌, ◌≤◌, ◌&&◌, Bool, true, false, List, [], ◌∷◌, ◌++◌, length, get_or, take, drop, Option, None, Some, refl, sym, ap, ◌∙◌, is_none}
use Rattle.std.specs.Prelude.{if◌then◌else◌, slice_set, slice_get, is_some, ◌↔◌, ◌⊎◌}
use Rattle.std.specs.Prelude.{min, nat_le}
use Rattle.std.proofs.lemmas.Bool.Decides.{nat_tests}
use mathlib.Core.Logic.{inl, inr}
use Rattle.std.specs.Option.{option_map}
use Rattle.std.proofs.lemmas.List.{append_assoc, set-set, set-get_or, drop_more, drop_all, take_more, set_split}
use Rattle.std.proofs.lemmas.Option.{get_or_from_slice_get}
use Rattle.sn_record.specs.LabelSet.{Labels}
use Rattle.sn_record.specs.Record.{Entries, is_match}
use Rattle.sn_net.specs.Cell.{Slots, with_record, all_held}
use Rattle.sn_sync.specs.Slotted.{held_records}

-- the slots with the record in the leftmost slot that is free for it, from the place on
abbrev pub from_place : List Labels → Slots → Entries → ℕ → Option Slots
from_place patterns slots r i = option_map (λ rest. take i slots ++ rest) (with_record (drop i patterns) (drop i slots) r)

-- what is left of a list begins with the element at the place
pub cut : {X : Type 0} (xs : List X) (i : ℕ) (x : X) → i < length xs → x ≡ get_or xs i x → drop i xs ≡ x ∷ drop (i + 1) xs
cut xs i x within here = drop_more xs i x within ∙ ap (λ y. y ∷ drop (i + 1) xs) (sym here)

pub with_record-first : (patterns : List Labels) (slots : Slots) (r : Entries) → from_place patterns slots r 0 ≡ with_record patterns slots r
with_record-first patterns slots r =
    elim (with_record patterns slots r) as (λ x. option_map (λ (rest : Slots). rest) x ≡ x) [ None ↦ refl | Some rest ↦ refl ]

passed_by : (pattern : Labels) (patterns : List Labels) (slot : Option Entries) (slots : Slots) (r : Entries) → (is_none slot && is_match r pattern) ≡ false
    → with_record (pattern ∷ patterns) (slot ∷ slots) r ≡ option_map (λ others. slot ∷ others) (with_record patterns slots r)
passed_by pattern patterns None slots r taken = ap (λ b. if b then Some (Some r ∷ slots) else option_map (λ others. None ∷ others) (with_record patterns slots r)) taken
passed_by pattern patterns (Some held) slots r taken = refl

one_more : (front : Slots) (slot : Option Entries) (x : Option Slots)
    → option_map (λ rest. front ++ rest) (option_map (λ others. slot ∷ others) x) ≡ option_map (λ rest. (front ++ slot ∷ []) ++ rest) x
one_more front slot None = refl
one_more front slot (Some rest) = ap (λ (slots : Slots). Some slots) (sym (append_assoc front (slot ∷ []) rest))

-- a slot that is not free for the record
pub from_place-more : (patterns : List Labels) (slots : Slots) (r : Entries) (i : ℕ) (pattern : Labels) (slot : Option Entries)
    → i < length patterns → i < length slots → pattern ≡ get_or patterns i pattern → slot ≡ get_or slots i slot → (is_none slot && is_match r pattern) ≡ false
    → from_place patterns slots r i ≡ from_place patterns slots r (i + 1)
from_place-more patterns slots r i pattern slot within within_slots here here_slot taken =
    ap (λ ps. option_map (λ rest. take i slots ++ rest) (with_record ps (drop i slots) r)) (cut patterns i pattern within here)
    ∙ ap (λ ss. option_map (λ rest. take i slots ++ rest) (with_record (pattern ∷ drop (i + 1) patterns) ss r)) (cut slots i slot within_slots here_slot)
    ∙ ap (option_map (λ rest. take i slots ++ rest)) (passed_by pattern (drop (i + 1) patterns) slot (drop (i + 1) slots) r taken)
    ∙ one_more (take i slots) slot (with_record (drop (i + 1) patterns) (drop (i + 1) slots) r)
    ∙ ap (λ front. option_map (λ (rest : Slots). front ++ rest) (with_record (drop (i + 1) patterns) (drop (i + 1) slots) r))
    (ap (λ x. take i slots ++ x ∷ []) here_slot ∙ sym (take_more slots i slot within_slots))

none_there : {A : Type 0} (x : Option A) → is_some x ≡ false → x ≡ None
none_there None e = refl
none_there (Some x) e = cc

-- a slot that is free for the record
pub from_place-found : (patterns : List Labels) (slots : Slots) (r : Entries) (i : ℕ) (pattern : Labels) (slot : Option Entries)
    → i < length patterns → i < length slots → pattern ≡ get_or patterns i pattern → slot ≡ get_or slots i slot → is_some slot ≡ false → is_match r pattern ≡ true
    → from_place patterns slots r i ≡ Some (slice_set slots i (Some r))
from_place-found patterns slots r i pattern slot within within_slots here here_slot empty match =
    ap (λ ps. option_map (λ rest. take i slots ++ rest) (with_record ps (drop i slots) r)) (cut patterns i pattern within here)
    ∙ ap (λ ss. option_map (λ rest. take i slots ++ rest) (with_record (pattern ∷ drop (i + 1) patterns) ss r)) (cut slots i slot within_slots here_slot ∙ ap (λ x. x ∷ drop (i + 1) slots) (none_there slot empty))
    ∙ ap (λ b. option_map (λ rest. take i slots ++ rest) (if b then Some (Some r ∷ drop (i + 1) slots) else option_map (λ others. None ∷ others) (with_record (drop (i + 1) patterns) (drop (i + 1) slots) r))) match
    ∙ ap (λ (all : Slots). Some all) (ap (λ rest. take i slots ++ Some r ∷ rest) (ap (λ n. drop n slots) (suc_is i)) ∙ sym (set_split slots i (Some r) within_slots))
  where
    suc_is : (n : ℕ) → n + 1 ≡ suc n
    suc_is n = omega arith

-- what is past the lesser of two numbers is past one of them
pub one_is_past : (a b i : ℕ) → min a b ≤ i → (a ≤ i) ⊎ (b ≤ i)
one_is_past a b i past =
    elim (nat_le a i) as (λ t. nat_le a i ≡ t → (a ≤ i) ⊎ (b ≤ i)) [
      | true ↦ λ first. inl (grind (arith, nat_tests, first))
      | false ↦ λ other. inr (grind (arith, nat_tests, other, past))
    ] refl

without_slots : (patterns : List Labels) (r : Entries) → with_record patterns [] r ≡ None
without_slots [] r = refl
without_slots (pattern ∷ patterns) r = refl

-- no pattern is left, or no slot
pub from_place-past : (patterns : List Labels) (slots : Slots) (r : Entries) (i : ℕ) → (length patterns ≤ i) ⊎ (length slots ≤ i) → from_place patterns slots r i ≡ None
from_place-past patterns slots r i (inl past) = ap (λ ps. option_map (λ rest. take i slots ++ rest) (with_record ps (drop i slots) r)) (drop_all i patterns past)
from_place-past patterns slots r i (inr past) =
    ap (λ ss. option_map (λ rest. take i slots ++ rest) (with_record (drop i patterns) ss r)) (drop_all i slots past)
    ∙ ap (option_map (λ rest. take i slots ++ rest)) (without_slots (drop i patterns) r)

-- two tests of one fact
pub same_tests : {P : Type 0} (b c : Bool) → (b ≡ true) ↔ P → (c ≡ true) ↔ P → b ≡ c
same_tests true c first second = sym (second.1 (first.0 refl))
same_tests false true first second = first.1 (second.0 refl)
same_tests false false first second = refl

-- what all slots hold, where those before the place are filled
abbrev pub all_from : Slots → ℕ → Option (List Entries)
all_from slots i = option_map (λ records. held_records (take i slots) ++ records) (all_held (drop i slots))

held_records-append : (front back : Slots) → held_records (front ++ back) ≡ held_records front ++ held_records back
held_records-append [] back = refl
held_records-append (None ∷ front) back = held_records-append front back
held_records-append (Some held ∷ front) back = ap (λ records. held ∷ records) (held_records-append front back)

one_more_held : (front : List Entries) (held : Entries) (x : Option (List Entries))
    → option_map (λ records. front ++ records) (option_map (λ others. held ∷ others) x) ≡ option_map (λ records. (front ++ held ∷ []) ++ records) x
one_more_held front held None = refl
one_more_held front held (Some records) = ap (λ (all : List Entries). Some all) (sym (append_assoc front (held ∷ []) records))

-- a slot that is filled
all_from-held : (slots : Slots) (i : ℕ) (held : Entries) → i < length slots → Some held ≡ get_or slots i (Some held) → all_from slots i ≡ all_from slots (i + 1)
all_from-held slots i held within here =
    ap (λ ss. option_map (λ records. held_records (take i slots) ++ records) (all_held ss)) (cut slots i (Some held) within here)
    ∙ one_more_held (held_records (take i slots)) held (all_held (drop (i + 1) slots))
    ∙ ap (λ front. option_map (λ (records : List Entries). front ++ records) (all_held (drop (i + 1) slots)))
    (sym (held_records-append (take i slots) (Some held ∷ []))
    ∙ ap held_records (ap (λ x. take i slots ++ x ∷ []) here ∙ sym (take_more slots i (Some held) within)))

pub all_from-more : (slots : Slots) (i : ℕ) (slot : Option Entries) → i < length slots → slot ≡ get_or slots i slot → is_none slot ≡ false → all_from slots i ≡ all_from slots (i + 1)
all_from-more slots i None within here filled = cc
all_from-more slots i (Some held) within here filled = all_from-held slots i held within here

-- a slot that is emptied again
pub emptied : (slots : Slots) (i : ℕ) (r : Entries) (slot : Option Entries) → slice_get slots i ≡ Some None → slot ≡ None → slice_set (slice_set slots i (Some r)) i slot ≡ slots
emptied slots i r slot empty none =
    set-set slots i (Some r) slot
    ∙ ap (slice_set slots i) (none ∙ sym (get_or_from_slice_get slots i None None empty))
    ∙ set-get_or slots i None
