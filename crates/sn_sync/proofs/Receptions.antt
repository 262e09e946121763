-- Which records are received.
use Rattle.std.proofs.Common.{◌≡◌, ◌≢◌, ◌↔◌, Bool, true, false, List, [], ◌∷◌, Option, None, Some, refl, sym, ap, ◌∙◌, subst, is_some, ℕ}
use Rattle.std.specs.Prelude.{◌||◌, if◌then◌else◌, IsTrue, IsSome, slice_set}
use Rattle.std.specs.List.{list_any}
use Rattle.std.specs.Option.{option_map}
use Rattle.std.proofs.lemmas.Bool.{false≢true}
use Rattle.sn_record.specs.LabelSet.{Labels}
use Rattle.sn_record.specs.Record.{Entries, is_match}
use Rattle.sn_net.specs.Cell.{CellState, Waiting, Passing, Slots, Reception, Held, Joined, Passed, Unmatched, with_record, all_held, union, held_or_joined, placed, reception}
use Rattle.sn_sync.specs.Synchrocell.{has_joined}

is_some-map : {A B : Type 0} (f : A → B) (x : Option A) → is_some (option_map f x) ≡ is_some x
is_some-map f None = refl
is_some-map f (Some x) = refl

or_right : (a b : Bool) → b ≡ true → (a || b) ≡ true
or_right true b e = refl
or_right false b e = e

-- a record that a slot is free for matches its pattern
pub fits_any : (patterns : List Labels) (slots : Slots) (r : Entries) → is_some (with_record patterns slots r) ≡ true → list_any (is_match r) patterns ≡ true
fits_any [] slots r found = absurd (false≢true found)
fits_any (pattern ∷ patterns) [] r found = absurd (false≢true found)
fits_any (pattern ∷ patterns) (None ∷ slots) r found =
    elim (is_match r pattern) as
    (λ b. is_some (if b then Some (Some r ∷ slots) else option_map (λ others. None ∷ others) (with_record patterns slots r)) ≡ true → (b || list_any (is_match r) patterns) ≡ true) [
      | true ↦ λ here. refl
      | false ↦ λ later. fits_any patterns slots r (sym (is_some-map (λ others. None ∷ others) (with_record patterns slots r)) ∙ later)
    ] found
fits_any (pattern ∷ patterns) (Some held ∷ slots) r found =
    or_right (is_match r pattern) (list_any (is_match r) patterns)
    (fits_any patterns slots r (sym (is_some-map (λ others. Some held ∷ others) (with_record patterns slots r)) ∙ found))

-- whether a reception is that of a record that matches no pattern
abbrev is_unmatched : Reception → Bool
is_unmatched Unmatched = true
is_unmatched (Held slots) = false
is_unmatched (Joined both) = false
is_unmatched Passed = false

held_or_joined-matched : (slots : Slots) (held : Option (List Entries)) → held_or_joined slots held ≢ Unmatched
held_or_joined-matched slots None e = false≢true (ap is_unmatched e)
held_or_joined-matched slots (Some records) e = false≢true (ap is_unmatched e)

passed_if : (b : Bool) → (b ≡ true) ↔ ((if b then Passed else Unmatched) ≢ Unmatched)
passed_if true = (λ _ e. false≢true (ap is_unmatched e), λ _. refl)
passed_if false = (λ e. absurd (false≢true e), λ matched. absurd (matched refl))

placed-matched : (patterns : List Labels) (r : Entries) (free : Option Slots) → (is_some free ≡ true → list_any (is_match r) patterns ≡ true)
    → (list_any (is_match r) patterns ≡ true) ↔ (placed patterns r free ≢ Unmatched)
placed-matched patterns r None fits = passed_if (list_any (is_match r) patterns)
placed-matched patterns r (Some slots) fits = (λ _. held_or_joined-matched slots (all_held slots), λ _. fits refl)

-- a record is accepted exactly where it is not unmatched
pub accepted-matched : (patterns : List Labels) (state : CellState) (r : Entries)
    → (IsTrue (has_joined state || list_any (is_match r) patterns)) ↔ (reception patterns state r ≢ Unmatched)
accepted-matched patterns (Waiting slots) r = placed-matched patterns r (with_record patterns slots r) (fits_any patterns slots r)
accepted-matched patterns Passing r = (λ _ e. false≢true (ap is_unmatched e), λ _. refl)

joined_of : (slots : Slots) (held : Option (List Entries)) → IsSome held → (both : Entries) × (held_or_joined slots held ≡ Joined both)
joined_of slots None some = absurd (false≢true some)
joined_of slots (Some records) some = (union records, refl)

-- a record that fills the last empty slot, as `offer` finds it
pub received-joined : (patterns : List Labels) (state : CellState) (slots lent : Slots) (place : ℕ) (r : Entries) → state ≡ Waiting slots → lent ≡ slots
    → with_record patterns slots r ≡ Some (slice_set slots place (Some r)) → IsSome (all_held (slice_set lent place (Some r)))
    → (both : Entries) × (reception patterns state r ≡ Joined both)
received-joined patterns state slots lent place r waits same_slots is all =
    let filled = slice_set slots place (Some r) in
    let joined = joined_of filled (all_held filled) (subst (λ (ss : Slots). IsSome (all_held (slice_set ss place (Some r)))) same_slots all) in
    (joined.0, ap (λ s. reception patterns s r) waits ∙ ap (placed patterns r) is ∙ joined.1)
