-- Laws of names and their numbers.
use Rattle.std.proofs.Common.{◌≡◌, ℕ, zero, suc, ◌<◌, ◌≤◌, ◌||◌, Bool, true, false, cond, IsTrue, List, [], ◌∷◌, ◌++◌, length, length-append, append_assoc, append-nil, get_or, refl, sym, ap, ◌∙◌, subst, arith}
use Rattle.std.specs.Str.{bytes_eq}
use Rattle.std.proofs.lemmas.Bool.{false≢true}
use Rattle.std.proofs.lemmas.List.Folds.{list_any-append, list_any_at}
use Rattle.std.proofs.lemmas.Cmp.{nat_list_eq_equiv}
use Rattle.std.proofs.lemmas.Slice.Eq.{bytes_eq-Decides}
use Rattle.std.proofs.lemmas.Grind.{common_steps}
use Rattle.sn_names.specs.Names.{is_held, entered, all_entered, number_in, name_at, are_distinct, AreNames, IsFull}

-- a text is the same as itself
pub same_as_itself : (n : List ℕ) → bytes_eq n n ≡ true
same_as_itself n = (bytes_eq-Decides n n).1 refl

-- texts that tie are one
pub same_text : (m n : List ℕ) → bytes_eq m n ≡ true → m ≡ n
same_text m n = (bytes_eq-Decides m n).0

-- a held name's number is among the numbers of the names
pub number_in-held : (names : List (List ℕ)) (n : List ℕ) → IsTrue (is_held names n) → number_in names n < length names
number_in-held [] n held = cc
number_in-held (m ∷ names) n held =
    elim (bytes_eq m n) as (λ b. IsTrue (b || is_held names n) → cond b 0 (suc (number_in names n)) < suc (length names)) [
      | true ↦ λ _. omega arith
      | false ↦ λ rest. omega (arith, number_in-held names n rest)
    ] held

-- the number that a name which is not held would get
pub number_in-new : (names : List (List ℕ)) (n : List ℕ) → is_held names n ≡ false → number_in names n ≡ length names
number_in-new [] n new' = refl
number_in-new (m ∷ names) n new' =
    elim (bytes_eq m n) as (λ b. (b || is_held names n) ≡ false → cond b 0 (suc (number_in names n)) ≡ suc (length names)) [
      | true ↦ λ no. cc
      | false ↦ λ rest. ap suc (number_in-new names n rest)
    ] new'

-- a name is held where its place is among the names
pub held_from_number : (names : List (List ℕ)) (n : List ℕ) → number_in names n < length names → is_held names n ≡ true
held_from_number names n below =
    elim (is_held names n) as (λ b. is_held names n ≡ b → b ≡ true) [
      | true ↦ λ _. refl
      | false ↦ λ new'. absurd (omega (arith, number_in-new names n new'))
    ] refl

-- and new where its place is past the end
pub new_from_number : (names : List (List ℕ)) (n : List ℕ) → length names ≤ number_in names n → is_held names n ≡ false
new_from_number names n past =
    elim (is_held names n) as (λ b. is_held names n ≡ b → b ≡ false) [
      | true ↦ λ held. absurd (omega (arith, number_in-held names n held))
      | false ↦ λ _. refl
    ] refl

-- entering a held name changes nothing
pub entered_held : (names : List (List ℕ)) (n : List ℕ) → number_in names n < length names → entered names n ≡ names
entered_held names n below = rw (held_from_number names n below) refl

-- entering a new name puts it at the end
pub entered_new : (names : List (List ℕ)) (n : List ℕ) → length names ≤ number_in names n → entered names n ≡ names ++ n ∷ []
entered_new names n past = rw (new_from_number names n past) refl

-- a held name is the name of its number
pub name_at-number_in : (names : List (List ℕ)) (n : List ℕ) → IsTrue (is_held names n) → name_at names (number_in names n) ≡ n
name_at-number_in [] n held = cc
name_at-number_in (m ∷ names) n held =
    elim (bytes_eq m n) as (λ b. bytes_eq m n ≡ b → IsTrue (b || is_held names n) → get_or (m ∷ names) (cond b 0 (suc (number_in names n))) [] ≡ n) [
      | true ↦ λ same _. same_text m n same
      | false ↦ λ _ rest. name_at-number_in names n rest
    ] refl held

-- a held name keeps its number when more come
pub number_in-append : (names more : List (List ℕ)) (n : List ℕ) → IsTrue (is_held names n) → number_in (names ++ more) n ≡ number_in names n
number_in-append [] more n held = cc
number_in-append (m ∷ names) more n held =
    elim (bytes_eq m n) as (λ b. IsTrue (b || is_held names n) → cond b 0 (suc (number_in (names ++ more) n)) ≡ cond b 0 (suc (number_in names n))) [
      | true ↦ λ _. refl
      | false ↦ λ rest. ap suc (number_in-append names more n rest)
    ] held

-- one side of an `or` is enough
or_left : (a b : Bool) → IsTrue a → IsTrue (a || b)
or_left true b e = refl
or_left false b e = cc

or_right : (a b : Bool) → IsTrue b → IsTrue (a || b)
or_right true b e = refl
or_right false b e = e

-- a held name stays held when more come
pub is_held-append : (names more : List (List ℕ)) (n : List ℕ) → IsTrue (is_held names n) → IsTrue (is_held (names ++ more) n)
is_held-append names more n held = list_any-append (λ m. bytes_eq m n) names more ∙ or_left _ _ held

-- the last name is held
pub is_held_last : (names : List (List ℕ)) (n : List ℕ) → IsTrue (is_held (names ++ n ∷ []) n)
is_held_last names n = list_any-append (λ m. bytes_eq m n) names (n ∷ []) ∙ or_right _ _ (or_left _ false (same_as_itself n))

-- what entering a name adds to the names
pub added : List (List ℕ) → List ℕ → List (List ℕ)
added names n = cond (is_held names n) [] (n ∷ [])

-- entering a name adds to the end
pub entered_is : (names : List (List ℕ)) (n : List ℕ) → entered names n ≡ names ++ added names n
unfolding added
entered_is names n =
    elim (is_held names n) as (λ b. cond b names (names ++ n ∷ []) ≡ names ++ cond b [] (n ∷ [])) [
      | true ↦ sym (append-nil names)
      | false ↦ refl
    ]

-- what entering several adds to the names
pub all_added : List (List ℕ) → List (List ℕ) → List (List ℕ)
all_added names [] = []
all_added names (n ∷ ns) = added names n ++ all_added (entered names n) ns

-- entering several adds to the end
pub all_entered_is : (names ns : List (List ℕ)) → all_entered names ns ≡ names ++ all_added names ns
unfolding all_added
all_entered_is names [] = sym (append-nil names)
all_entered_is names (n ∷ ns) =
    all_entered_is (entered names n) ns
    ∙ ap (λ front. front ++ all_added (entered names n) ns) (entered_is names n)
    ∙ append_assoc names (added names n) (all_added (entered names n) ns)

-- an entered name is held
pub is_held-entered : (names : List (List ℕ)) (n : List ℕ) → IsTrue (is_held (entered names n) n)
is_held-entered names n =
    elim (is_held names n) as (λ b. is_held names n ≡ b → IsTrue (is_held (cond b names (names ++ n ∷ [])) n)) [
      | true ↦ λ held. held
      | false ↦ λ _. is_held_last names n
    ] refl

-- a held name stays held when others are entered
pub is_held-all_entered : (names ns : List (List ℕ)) (n : List ℕ) → IsTrue (is_held names n) → IsTrue (is_held (all_entered names ns) n)
is_held-all_entered names ns n held =
    subst (λ all. IsTrue (is_held all n)) (sym (all_entered_is names ns)) (is_held-append names (all_added names ns) n held)

-- each of several names that were entered is held
pub is_held-each : (names ns : List (List ℕ)) (n : List ℕ) → IsTrue (is_held ns n) → IsTrue (is_held (all_entered names ns) n)
is_held-each names [] n among = cc
is_held-each names (m ∷ ns) n among =
    elim (bytes_eq m n) as (λ b. bytes_eq m n ≡ b → IsTrue (b || is_held ns n) → IsTrue (is_held (all_entered (entered names m) ns) n)) [
      | true ↦ λ same _. is_held-all_entered (entered names m) ns n (subst (λ x. IsTrue (is_held (entered names m) x)) (same_text m n same) (is_held-entered names m))
      | false ↦ λ _ rest. is_held-each (entered names m) ns n rest
    ] refl among

-- a held name keeps its number when others are entered
pub number_in-all_entered : (names ns : List (List ℕ)) (n : List ℕ) → IsTrue (is_held names n) → number_in (all_entered names ns) n ≡ number_in names n
number_in-all_entered names ns n held =
    ap (λ all. number_in all n) (all_entered_is names ns) ∙ number_in-append names (all_added names ns) n held

-- the names grow no fewer
pub length-all_entered : (names ns : List (List ℕ)) → length names ≤ length (all_entered names ns)
length-all_entered names ns = omega (arith, ap length (all_entered_is names ns), length-append names (all_added names ns))

-- to enter one list and then another is to enter both
pub all_entered-append : (names xs ys : List (List ℕ)) → all_entered names (xs ++ ys) ≡ all_entered (all_entered names xs) ys
all_entered-append names [] ys = refl
all_entered-append names (x ∷ xs) ys = all_entered-append (entered names x) xs ys

-- different names with a new one more are different
pub are_distinct_push : (names : List (List ℕ)) (n : List ℕ) → is_held names n ≡ false → IsTrue (are_distinct names) → IsTrue (are_distinct (names ++ n ∷ []))
are_distinct_push [] n new' distinct = refl
are_distinct_push (m ∷ names) n new' distinct =
    let differs : bytes_eq m n ≡ false = grind (arith, common_steps, new') in
    let rest : is_held names n ≡ false = grind (arith, common_steps, new') in
    let old : is_held names m ≡ false = grind (arith, common_steps, distinct) in
    let other : bytes_eq n m ≡ false = nat_list_eq_equiv.symm n m ∙ differs in
    let here : is_held (names ++ n ∷ []) m ≡ false = list_any-append (λ x. bytes_eq x m) names (n ∷ []) ∙ rw (old, other) refl in
    rw here (are_distinct_push names n rest (grind (arith, common_steps, distinct)))

-- the number of a new name at the end
pub number_in_last : (names : List (List ℕ)) (n : List ℕ) → is_held names n ≡ false → number_in (names ++ n ∷ []) n ≡ length names
number_in_last [] n new' = rw (same_as_itself n) refl
number_in_last (m ∷ names) n new' =
    elim (bytes_eq m n) as (λ b. (b || is_held names n) ≡ false → cond b 0 (suc (number_in (names ++ n ∷ []) n)) ≡ suc (length names)) [
      | true ↦ λ no. cc
      | false ↦ λ rest. ap suc (number_in_last names n rest)
    ] new'

-- names with a new one more, where there is room
pub AreNames_push : (names : List (List ℕ)) (n : List ℕ) → length names < 4096 → is_held names n ≡ false → AreNames names → AreNames (names ++ n ∷ [])
AreNames_push names n room new' small = record {
  few = omega (arith, length-append names (n ∷ []));
  distinct = are_distinct_push names n new' small.distinct;
}

-- at most 4,096 names are so after one is entered, where there is room
pub AreNames_entered : (names : List (List ℕ)) (n : List ℕ) → length names < 4096 → AreNames names → AreNames (entered names n)
AreNames_entered names n room small =
    elim (is_held names n) as (λ b. is_held names n ≡ b → AreNames (cond b names (names ++ n ∷ []))) [
      | true ↦ λ _. small
      | false ↦ λ new'. AreNames_push names n room new' small
    ] refl

-- names that hold a name are not full for it
pub not_full_held : (names : List (List ℕ)) (n : List ℕ) → number_in names n < length names → IsFull names n → ⊥
not_full_held names n below full = false≢true (sym full.fresh ∙ held_from_number names n below)

-- what a name that was new and has gone to the end does
pub record IsAtEnd (names new : List (List ℕ)) (n : List ℕ) (i : ℕ) : Type 0 where
  pub grown : new ≡ entered names n
  pub number : i ≡ number_in new n

-- a name whose place is past the end goes there
pub is_at_end : (names new : List (List ℕ)) (n : List ℕ) (i : ℕ) → new ≡ names ++ n ∷ [] → i ≡ number_in names n → length names ≤ i → IsAtEnd names new n i
is_at_end names new n i is place past =
    let fresh : is_held names n ≡ false = new_from_number names n (omega arith) in
    record {
      grown = is ∙ sym (entered_new names n (omega arith));
      number = place ∙ number_in-new names n fresh ∙ sym (ap (λ ns. number_in ns n) is ∙ number_in_last names n fresh);
    }

-- where names differ, a number is that of its name
pub number_in-name_at : (names : List (List ℕ)) (i : ℕ) → IsTrue (are_distinct names) → i < length names → number_in names (name_at names i) ≡ i
number_in-name_at [] i distinct within = absurd (omega arith)
number_in-name_at (m ∷ names) zero distinct within = rw (same_as_itself m) refl
number_in-name_at (m ∷ names) (suc i) distinct within =
    let here : i < length names = omega arith in
    let fresh : is_held names m ≡ false = grind (arith, common_steps, distinct) in
    let rest = number_in-name_at names i (grind (arith, common_steps, distinct)) here in
    elim (bytes_eq m (name_at names i)) as (λ b. bytes_eq m (name_at names i) ≡ b → cond b 0 (suc (number_in names (name_at names i))) ≡ suc i) [
      | true ↦ λ same.
          let other : bytes_eq (name_at names i) m ≡ true = nat_list_eq_equiv.symm (name_at names i) m ∙ same in
          absurd (false≢true (sym fresh ∙ list_any_at (λ x. bytes_eq x m) names i [] here other))
      | false ↦ λ _. ap suc rest
    ] refl
