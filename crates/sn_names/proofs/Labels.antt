-- Labels are told by their numbers, as their names are.
use Rattle.std.proofs.Common.{◌≡◌, ℕ, ◌+◌, ◌-◌, ◌<◌, Bool, true, false, cond, ◌||◌, IsTrue, List, length, Some, None, refl, sym, ap, ◌∙◌, subst, arith}
use Rattle.std.specs.Prelude.{nat_le}
use Rattle.std.proofs.lemmas.Bool.{le-leb, lt-leb}
use Rattle.sn_record.specs.Label.{first_binding}
use Rattle.sn_names.specs.Names.{is_held, is_marked, label_name, label_number, name_at, number_in, numbered, place_of, IsHeld, are_distinct}
use Rattle.sn_names.proofs.NamesLaws.{held_from_number, name_at-number_in, number_in-held, number_in-name_at}

-- the number at a place, where there are few
pub numbered_marked : (n : List ℕ) (place : ℕ) → is_marked n ≡ true → numbered n place ≡ first_binding + place
numbered_marked n place marked = ap (λ b. cond (b || nat_le first_binding place) (first_binding + place) place) marked

pub numbered_plain : (n : List ℕ) (place : ℕ) → is_marked n ≡ false → place < first_binding → numbered n place ≡ place
numbered_plain n place plain few =
    ap (λ b. cond (b || nat_le first_binding place) (first_binding + place) place) plain ∙ ap (λ b. cond b (first_binding + place) place) (lt-leb first_binding place few)

moved_back : (place : ℕ) → place_of (first_binding + place) ≡ place
moved_back place =
    ap (λ b. cond b ((first_binding + place) - first_binding) (first_binding + place)) (le-leb first_binding (first_binding + place) (omega arith)) ∙ omega arith

-- the place of the number that a name gets at a place
pub place_of-numbered : (n : List ℕ) (place : ℕ) → place_of (numbered n place) ≡ place
place_of-numbered n place = at (is_marked n) (nat_le first_binding place) refl
  where
    at : (marked past : Bool) → nat_le first_binding place ≡ past → place_of (cond (marked || past) (first_binding + place) place) ≡ place
    at true past is = moved_back place
    at false true is = moved_back place
    at false false is = ap (λ b. cond b (place - first_binding) place) is

-- the number of a held name has this name
pub label_name-label_number : (names : List (List ℕ)) (n : List ℕ) → IsTrue (is_held names n) → label_name names (label_number names n) ≡ n
label_name-label_number names n held = ap (name_at names) (place_of-numbered n (number_in names n)) ∙ name_at-number_in names n held

-- it is one of a held name
pub number_is_held : (names : List (List ℕ)) (n : List ℕ) → IsTrue (is_held names n) → IsHeld names (label_number names n)
number_is_held names n held =
    let place = place_of-numbered n (number_in names n) in
    record {
      within = subst (λ i. i < length names) (sym place) (number_in-held names n held);
      number = λ i. numbered (label_name-label_number names n held i) (place i);
    }

-- the same of a place that was found or entered
pub place_is_held : (names : List (List ℕ)) (n : List ℕ) (place : ℕ) → place ≡ number_in names n → place < length names → IsHeld names (numbered n place)
place_is_held names n place is within =
    subst (λ i. IsHeld names (numbered n i)) (sym is) (number_is_held names n (held_from_number names n (subst (λ i. i < length names) is within)))

-- names with one number are one, where one of them is held
pub same_number : (names : List (List ℕ)) (a b : List ℕ) → IsTrue (is_held names a) → label_number names b ≡ label_number names a → b ≡ a
same_number names a b held same =
    let places : number_in names b ≡ number_in names a = sym (place_of-numbered b (number_in names b)) ∙ ap place_of same ∙ place_of-numbered a (number_in names a) in
    let other = held_from_number names b (subst (λ n. n < length names) (sym places) (number_in-held names a held)) in
    sym (name_at-number_in names b other) ∙ ap (name_at names) places ∙ name_at-number_in names a held

-- the place of a name that was found
pub found_place : (b : Bool) (place k : ℕ) → Some place ≡ cond b (Some k) None → place ≡ k
found_place true place k e = cc
found_place false place k e = cc

-- and a held number is that of its name
pub label_number-label_name : (names : List (List ℕ)) (id : ℕ) → IsTrue (are_distinct names) → IsHeld names id → label_number names (label_name names id) ≡ id
label_number-label_name names id differ held =
    ap (numbered (label_name names id)) (number_in-name_at names (place_of id) differ held.within) ∙ held.number
